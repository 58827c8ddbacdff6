use Rattle.std.proofs.Common.{ap}
use Rattle.css_print.specs.declared.selector.Place.{Place}
use Rattle.css_print.specs.Positions.{remaining}
use Rattle.css_print.specs.Terms.{word_text}
use Rattle.css_print.specs.Walking.{left, solid_of}
use Rattle.css_print.proofs.TermLemmas.{plain_step}
use Rattle.css_print.proofs.selector.put_plain.Goals as goal

pub returns : goal.returns
returns g c =
    let s = solid_of c.args.word in
    let rest = left c.args.walk.now in
    let new : Place = record { depth = c.depth_after-depth.result; behind_colon = c.is_sign_of-place.result } in
    record {
      put = plain_step (λ text. g.O.Output.more c.args.out.now text c.put_word.new.out) c.args.place.now new s rest (remaining c.args.positions.now) (remaining c.pass_end.new.positions) (word_text s c.depth_after-depth.result c.next_kind.result)
          c.requires.plain c.requires.at c.depth_after-depth.ensures.depth c.is_sign_of-place.ensures
          (ap (word_text s c.depth_after-depth.result) c.next_kind.ensures) c.in_ok-put_word.ensures c.pass_end.ensures;
    }
