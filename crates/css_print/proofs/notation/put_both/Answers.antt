use Rattle.std.proofs.Common.{ℕ, List, ◌∷◌, ◌++◌, [], ap, ap₂, ◌∙◌, append_assoc, subst, rules, w32}
use Rattle.std.specs.Prelude.{FitsSigned}
use Rattle.std.proofs.lemmas.Int.{to_z-of_z}
use Rattle.css_model.specs.Positions.Printed.{letter_n, offset_text, step_text}
use Rattle.css_print.proofs.notation.put_both.Goals as goal

pub returns : goal.returns
returns g c =
    let joins = g.met.O.Output.joins in
    let step_fits : FitsSigned w32 c.args.step = search rules in
    let offset_fits : FitsSigned w32 c.args.offset = search rules in
    let step = ap step_text (to_z-of_z w32 c.args.step step_fits) in
    let offset = ap offset_text (to_z-of_z w32 c.args.offset offset_fits) in
    subst (λ (text : List ℕ). g.O.Output.more c.args.out.now text c.put_offset.new.out)
    (append_assoc _ (letter_n ∷ []) _ ∙ ap₂ (λ (a b : List ℕ). a ++ letter_n ∷ b) step offset)
    (joins _ _ _ (_ ++ letter_n ∷ []) _ (joins _ _ _ _ (letter_n ∷ []) c.in_ok-put_step.ensures c.in_ok-put.ensures) c.in_ok-put_offset.ensures)
