use Rattle.std.proofs.Common.{List, subst, ◌∙◌}
use Rattle.std.specs.Prelude.{OnOk}
use Rattle.css_model.specs.Documents.SelectorParts.{SelectorParts}
use Rattle.lint_text.specs.Asking.{AreHeld}
use Rattle.lint_text.proofs.asking.settle_all.Goals as goal

pub returns-clause-held : goal.returns-clause-held
returns-clause-held c =
    subst (λ (xs : List SelectorParts). OnOk c.settle_each.result (AreHeld c.settle_each.new.pairs.answers xs)) (c.deref.ensures.value ∙ c.in_ok-selectors.ensures) c.settle_each.ensures.held
