-- What the document of a shape shows.
use Rattle.std.specs.Prelude.{◌+◌, ◌*◌, ◌≤◌, List, length}
use Rattle.css_model.specs.declared.example.Example.{Example}
use Rattle.css_model.specs.Documents.Document.{IsLegal}
use Rattle.css_model.specs.Documents.FeatureParts.{FeatureParts}
use Rattle.css_model.specs.Documents.Matching.{Matches}
use Rattle.css_model.specs.Documents.RunDocuments.{KeepsRules, expand, target_of}
use Rattle.css_model.specs.Documents.SelectorParts.{SelectorParts}
use Rattle.slot_plan.specs.ShapeParts.{ShapeParts}
use Rattle.slot_plan.specs.ValidShape.{ValidShape}
use Rattle.shape_laws.specs.Document.SlotElements.{AreSlotElements}
use Rattle.shape_laws.specs.Document.Trees.{example_of}

-- an example shows that two selectors meet: its document is legal, and both match its target
pub record ShowsMeeting (x y : SelectorParts) (e : Example) : Type 0 where
  pub rules : KeepsRules e
  pub legal : IsLegal (expand e)
  pub left : Matches (expand e) (target_of e) x
  pub right : Matches (expand e) (target_of e) y

-- The document of a shape that fits two selectors shows that they meet, whichever elements suit its slots.
abbrev pub ShapesShowMeeting : Type 0
ShapesShowMeeting =
    (x y : SelectorParts) (shape : ShapeParts) (elements : List FeatureParts) → ValidShape x y shape → AreSlotElements x y shape elements →
    ShowsMeeting x y (example_of x.pseudo shape elements)

-- It has at most four lines for each compound of the two, and two more.
abbrev pub ShapesAreShort : Type 0
ShapesAreShort =
    (x y : SelectorParts) (shape : ShapeParts) (elements : List FeatureParts) → ValidShape x y shape → AreSlotElements x y shape elements →
    length (example_of x.pseudo shape elements).doc.lines ≤ 4 * (length x.chain + length y.chain) + 2
