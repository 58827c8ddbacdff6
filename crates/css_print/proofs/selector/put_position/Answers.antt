use Rattle.std.proofs.Common.{◌≡◌, List, ◌∷◌, Option, Some, refl, sym, ap, ap₂, ◌∙◌}
use Rattle.css_model.specs.declared.position.AnB.{AnB}
use Rattle.css_model.specs.declared.token.Gap.{Gap}
use Rattle.css_model.specs.declared.token.TokenKind.{TokenKind}
use Rattle.css_model.specs.Selectors.Terms.{counted_gap}
use Rattle.css_print.specs.Positions.{remaining}
use Rattle.css_print.specs.Terms.{called_text}
use Rattle.css_print.specs.Walking.{left, solid_of}
use Rattle.css_print.specs.Words.{kind_of_first}
use Rattle.css_print.proofs.TermLemmas.{next_is, position_left, position_step}
use Rattle.css_print.proofs.selector.put_position.Goals as goal

pub returns-clause-put : goal.returns-clause-put
returns-clause-put g c =
    let old = c.args.place.now in
    let s = solid_of c.args.word in
    let ss = left c.args.walk.now in
    let rest = left c.read_closing-gap.new.walk in
    let ps : List AnB = remaining c.args.positions.now in
    let qs : List AnB = remaining c.next-argument.new.self in
    let l = position_left old s ss ps c.requires.position c.requires.at in
    let n = next_is c.next-argument.result ps qs c.next-argument.ensures l.0 l.1 l.2 in
    let spells : called_text s c.next-argument.result c.counted_gap-counted.result ≡ called_text s (Some l.0) (counted_gap old.depth s.kind c.read_closing-gap.result (kind_of_first rest)) =
    ap₂ (λ (o : Option AnB) (gap : Gap). called_text s o gap) n.0 (c.counted_gap-counted.ensures ∙ ap (λ (k : Option TokenKind). counted_gap old.depth s.kind c.read_closing-gap.result k) c.next_kind.ensures) in
    position_step (λ text. g.O.Output.more c.args.out.now text c.put_called.new.out) old _ s ss rest ps qs l.0 c.read_closing-gap.result (called_text s c.next-argument.result c.counted_gap-counted.result)
    c.requires.position c.requires.at (l.2 ∙ ap (λ (qs : List AnB). l.0 ∷ qs) (sym n.1)) c.read_closing-gap.ensures.rest c.read_closing-gap.ensures.gap refl refl spells c.in_ok-put_called.ensures
