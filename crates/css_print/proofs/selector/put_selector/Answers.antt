use Rattle.std.proofs.Common.{◌≡◌, ◌≤◌, ℕ, List, [], ◌∷◌, ◌++◌, map, length, false, Ok, sym, ap, ◌∙◌, arith, append_assoc}
use Rattle.css_model.specs.Selectors.Terms.{terms_from}
use Rattle.css_model.specs.Selectors.Tokens.{selector_token}
use Rattle.css_model.specs.Sheets.PrintedSelector.{printed_from}
use Rattle.css_model.specs.Sheets.Spelling.{tokens_in}
use Rattle.css_model.specs.Text.Kept.{Solid, solid}
use Rattle.selector_laws.specs.Positions.{positions_written}
use Rattle.css_print.specs.Walking.{left, solid_of}
use Rattle.css_print.proofs.PieceLemmas.{selector_begins, sound_reads}
use Rattle.css_print.proofs.PieceWords.{begins_inside, begins_solids, few_in}
use Rattle.css_print.proofs.selector.put_selector.Goals as goal

pub new-walk-requires-clause-start : goal.new-walk-requires-clause-start
new-walk-requires-clause-start g c =
    begins_inside c.tokens_restart.ensures c.args.source.now c.args.item.now.piece.start (selector_begins c.args.source.now c.args.item.now c.requires.sound)

pub terms-init : goal.terms-init
terms-init g c =
    let law = c.tokens_restart.ensures in
    let source = c.args.source.now in
    let item = c.args.item.now in
    let begins = selector_begins source item c.requires.sound in
    let ss = map (solid source) (tokens_in source item.piece) in
    let are : left c.new-walk.result ≡ ss = c.new-walk.ensures.left ∙ begins_solids law source item.piece begins in
    let few : length (left c.new-walk.result) ≤ length source = ap-le (ap length c.new-walk.ensures.left) (few_in law source item.piece (begins_inside law source item.piece.start begins)) in
    let short = c.requires.length in (
      [],
      g.met.O.Output.nothing c.args.out.now,
      ap (λ (ss : List Solid). printed_from 0 0 ss) are,
      c.new-walk.ensures.ready,
      record {
        written = ap (λ (ss : List Solid). positions_written false (terms_from 0 0 (map selector_token ss))) are
            ∙ c.written_positions_are_tested.ensures (terms_from 0 0 (map selector_token ss)) item.selector (sound_reads law source item c.requires.sound)
            ∙ sym (ap (λ ps. map Ok ps) c.new-positions.ensures);
        few = omega (arith, few, short);
      },
    )
  where
    ap-le : {a b c : ℕ} → a ≡ b → b ≤ c → a ≤ c
    ap-le e l = omega (arith, e, l)

pub terms-preserved : goal.terms-preserved
terms-preserved g c =
    let done = c.terms.invariant.0 in
    let s : Solid = solid_of c.in-Some.word in
    let was : left c.terms.walk ≡ s ∷ left c.next.new.self = c.in-Some.ensures.word in
    let p = c.in_ok-put_term.ensures.put in (
      done ++ p.text,
      g.met.O.Output.joins _ _ _ done p.text c.terms.invariant.1 p.put,
      append_assoc done p.text (printed_from c.put_term.new.place.depth 0 (left c.put_term.new.walk)) ∙ ap (λ (w : List ℕ). done ++ w) p.spells
          ∙ sym (ap (λ (ss : List Solid). done ++ printed_from c.terms.place.depth 0 ss) was) ∙ c.terms.invariant.2,
      c.in_ok-put_term.ensures.ready,
      p.at,
    )

pub terms-smaller : goal.terms-smaller
terms-smaller g c =
    let was = ap length c.in-Some.ensures.word in
    let less = c.in_ok-put_term.ensures.put.shorter in
    omega (arith, was, less)
