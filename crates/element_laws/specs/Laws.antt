-- The elements that are chosen suit their slots.
use Rattle.std.specs.Prelude.{ℕ, ◌≤◌, List, length}
use Rattle.std.specs.List.{AllByRecursion}
use Rattle.css_model.specs.Documents.FeatureParts.{FeatureParts}
use Rattle.css_model.specs.Documents.SelectorParts.{SelectorParts}
use Rattle.compound_fit.specs.Ids.{HasPlainIds}
use Rattle.shape_laws.specs.Document.SlotElements.{AreSlotElements}
use Rattle.element_laws.specs.Chosen.{AreChosen}
use Rattle.element_laws.specs.Names.{HaveNames}
use Rattle.slot_plan.specs.ShapeParts.{ShapeParts}
use Rattle.slot_plan.specs.ValidShape.{ValidShape, simples_in}

-- The elements that are chosen for a shape that fits two selectors suit its slots, where ids are tested for
-- presence and equality alone and all types and attributes have names.
abbrev pub ChosenElementsSuit : Type 0
ChosenElementsSuit =
    (x y : SelectorParts) (shape : ShapeParts) (elements : List FeatureParts) → ValidShape x y shape →
    ((k : ℕ) → k ≤ length shape.steps → HasPlainIds (simples_in x y shape k)) → AllByRecursion HaveNames x.chain → AllByRecursion HaveNames y.chain →
    AreChosen x y shape elements → AreSlotElements x y shape elements
