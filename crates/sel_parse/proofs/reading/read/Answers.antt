use Rattle.std.proofs.Common.{◌≡◌, ℕ, List, ◌∷◌, length, refl, sym, ap, ap₂, ◌∙◌, arith}
use Rattle.css_model.specs.declared.token.Gap.TheVariants as gap
use Rattle.css_model.specs.Selectors.Compounds.{SoFar}
use Rattle.css_model.specs.Selectors.Reading.{read_from}
use Rattle.css_model.specs.Selectors.Terms.{Term, terms_from}
use Rattle.sel_parse.proofs.ReadingLemmas.{read_along, skipped, stepped}
use Rattle.sel_parse.proofs.TermLemmas.{length-terms_from}
use Rattle.sel_parse.proofs.reading.read.Goals as goal
use Rattle.sel_parse.proofs.reading.read.Goals.{then-left-gt0, else-left-gt0+in_ok-step}

pub terms-init : goal.terms-init
terms-init c =
    let state : c.nothing_yet-state.result.stepped ≡ 0 = ap (λ (s : SoFar). s.stepped) c.nothing_yet-state.ensures in
    let rest : length c.new-rest.result ≡ length (terms_from 0 0 c.args.tokens.now) = ap length c.new-rest.ensures in
    record {
      read = ap₂ (λ (s : SoFar) (ts : List Term). read_from s gap.Nothing 0 ts) c.nothing_yet-state.ensures c.new-rest.ensures;
      few = omega (arith, length-terms_from 0 0 c.args.tokens.now, state, rest);
    }

pub terms-preserved : goal.terms-preserved
terms-preserved c =
    let x = c.in-Some.x in
    let xs = c.in-Some.behind in
    let rest : c.terms.rest ≡ x ∷ xs = c.in-Some.ensures in
    let longer : length c.terms.rest ≡ length (x ∷ xs) = ap length rest in
    elim c.if-left-gt0.branch [
      | then-left-gt0 w ↦ (
          let states : c.if-left-gt0.state.stepped ≡ c.terms.state.stepped = ap (λ (s : SoFar). s.stepped) w.state-is in
          record {
            read = read_along c.terms.state c.if-left-gt0.state x.gap c.gap-gap.result c.if-left-gt0.left c.if-left-gt0.left xs w.state-is c.gap-gap.ensures refl
                ∙ skipped c.terms.state c.terms.gap c.terms.left c.if-left-gt0.left x xs w.if-left-gt0.true w.left-is
                ∙ ap (read_from c.terms.state c.terms.gap c.terms.left) (sym rest) ∙ c.terms.invariant.read;
            few = omega (arith, states, longer, c.terms.invariant.few);
          })
      | else-left-gt0+in_ok-step w ↦ (
          let new = w.step.new.state in
          let none_left : c.terms.left ≡ 0 = omega arith in
          let states : c.if-left-gt0.state.stepped ≡ new.stepped = ap (λ (s : SoFar). s.stepped) w.state-is in
          record {
            read = read_along new c.if-left-gt0.state x.gap c.gap-gap.result w.saturating_sub-left.result c.if-left-gt0.left xs w.state-is c.gap-gap.ensures w.left-is
                ∙ stepped c.terms.state new c.terms.gap w.in_ok-step.field-0 w.saturating_sub-left.result x xs w.in_ok-step.ensures.steps w.saturating_sub-left.ensures
                ∙ ap₂ (λ (n : ℕ) (ts : List Term). read_from c.terms.state c.terms.gap n ts) (sym none_left) (sym rest) ∙ c.terms.invariant.read;
            few = omega (arith, states, longer, w.in_ok-step.ensures.few, c.terms.invariant.few);
          })
    ]
