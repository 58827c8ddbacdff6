-- The example that is built of a shape.
use Rattle.std.specs.Prelude.{◌≡◌, ℕ, List}
use Rattle.css_model.specs.declared.example.Example.{Example}
use Rattle.css_model.specs.Documents.FeatureParts.{FeatureParts}
use Rattle.css_model.specs.Documents.SelectorParts.{SelectorParts}
use Rattle.shape_laws.specs.Document.Trees.{example_of}
use Rattle.element_laws.specs.Chosen.{AreChosen}
use Rattle.slot_plan.specs.ShapeParts.{ShapeParts}

-- that of the elements which are chosen for its slots
pub record IsBuilt (x y : SelectorParts) (shape : ShapeParts) (e : Example) : Type 0 where
  pub elements : List FeatureParts
  pub chosen : AreChosen x y shape elements
  pub is : e ≡ example_of x.pseudo shape elements

-- how many lines a document has at most
abbrev pub most_lines : ℕ
most_lines = 4095
