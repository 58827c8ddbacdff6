use Rattle.std.proofs.Common.{◌∙◌, ◌++◌, ◌∷◌, [], ℕ, List, sym, ap}
use Rattle.doc_text.proofs.More.{attribute_cut}
use Rattle.doc_text.proofs.element.push_read.Goals as goal

pub returns-in_ok-push-in-Some : goal.returns-in_ok-push-in-Some
returns-in_ok-push-in-Some c =
    let cut = c.in-Some.ensures in
    let is = attribute_cut c.args.field.now c.in-Some.name.now c.in-Some.value.now cut.0 cut.1 in
    c.in_ok-push-in-Some.ensures.items ∙ ap (λ (more : List (List ℕ × List ℕ)). c.args.attributes.now.items ++ more) ((λ i. (c.in_ok-name-in-Some.ensures i, c.in_ok-value-in-Some.ensures i) ∷ []) ∙ sym is)
