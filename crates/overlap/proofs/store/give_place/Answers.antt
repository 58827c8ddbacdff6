use Rattle.std.proofs.Common.{Some, ap, sym, ◌∙◌}
use Rattle.css_model.proofs.ForCallers.{selector_decides}
use Rattle.css_model.specs.Documents.SelectorParts.{SelectorParts}
use Rattle.overlap.proofs.store.give_place.Goals as goal

pub returns-clause-place : goal.returns-clause-place
returns-clause-place c =
    let (stored, at, same) = c.in_ok-place.ensures.stored in
    at ∙ ap (λ (s : SelectorParts). Some s) (sym ((selector_decides c.in_ok-copy.copy stored).0 same) ∙ c.in_ok-copy.ensures)
