-- From a document to a shape.
use Rattle.css_model.specs.Documents.Document.{Document, IsLegal, Target}
use Rattle.css_model.specs.Documents.Matching.{Matches}
use Rattle.css_model.specs.Documents.SelectorParts.{SelectorParts}
use Rattle.slot_plan.specs.ShapeParts.{ShapeParts}
use Rattle.slot_plan.specs.ValidShape.{ValidShape}

-- where two selectors match one target of a legal document, a shape fits both of them
abbrev pub MeetingHasAShape : Type 0
MeetingHasAShape =
    (doc : Document) (target : Target) (x y : SelectorParts) → IsLegal doc → Matches doc target x → Matches doc target y →
    (shape : ShapeParts) × ValidShape x y shape
