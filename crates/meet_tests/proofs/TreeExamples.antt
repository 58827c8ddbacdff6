-- The document of a shape whose last step leads further up than to a parent, worked by hand: no shape that is read from values
-- of variables has such a step.
use Rattle.std.proofs.Common.{◌≡◌, ℕ, true, false, List, [], ◌∷◌, None, refl}
use Rattle.std.specs.Prelude.{codes}
use Rattle.css_model.specs.declared.example.RunLine.{RunLine}
use Rattle.css_model.specs.Documents.FeatureParts.{FeatureParts}
use Rattle.shape_laws.specs.Document.Trees.{example_of}
use Rattle.slot_plan.specs.declared.shape.SlotStep.TheVariants.{Further, UpMore}
use Rattle.slot_plan.specs.ShapeParts.{ShapeParts}

abbrev element : List ℕ → FeatureParts
element kind = record { kind = kind; attrs = []; flags = 0; text = false }

abbrev line : ℕ → ℕ → List ℕ → RunLine
line depth count kind = record { depth = depth; count = count; element = element kind }

-- `c:root b:nth-child(2)~a:nth-child(5):nth-last-child(4)`
abbrev shape : ShapeParts
shape = record {
  steps = Further ∷ UpMore ∷ [];
  left = 0 ∷ 1 ∷ 2 ∷ [];
  right = 0 ∷ [];
  before = 4 ∷ 1 ∷ 0 ∷ [];
  after = 3 ∷ 6 ∷ 0 ∷ [];
  top_is_root = true;
  root_is_child = false;
}

gap_below_a_root_further_up : example_of None shape (element (codes "a") ∷ element (codes "b") ∷ element (codes "c") ∷ [])
    ≡ record {
      doc = record {
        root_is_child = false;
        lines = line 0 1 (codes "c") ∷ line 1 1 (codes "x") ∷ line 2 1 (codes "x") ∷ line 2 1 (codes "b") ∷ line 2 2 (codes "x") ∷ line 2 1 (codes "a") ∷ line 2 3 (codes "x") ∷ [];
      };
      marked = 5;
      pseudo = None;
    }
gap_below_a_root_further_up = refl
