-- Shapes, and nodes and numbers of which all conditions hold.
use Rattle.std.specs.Prelude.{◌≡◌, ℕ, suc, ◌<◌, Bool, length, slice_index}
use Rattle.css_model.specs.Documents.SelectorParts.{SelectorParts}
use Rattle.slot_plan.specs.ShapeParts.{ShapeParts}
use Rattle.slot_plan.specs.ValidShape.{ValidShape}
use Rattle.grid_laws.specs.Grid.{Nodes}
use Rattle.grid_laws.specs.Slots.{shape_by}
use Rattle.grid_laws.specs.Solved.{Solved}

-- where all conditions hold, the shape along the true nodes fits
abbrev pub SolvedShapesFit : Type 0
SolvedShapesFit =
    (x y : SelectorParts) (v : Nodes) (bx ax by ay : ℕ → ℕ) (root child : Bool) → Solved x y v bx ax by ay root child →
    ValidShape x y (shape_by x y v bx ax by ay root child)

-- so some shape does
abbrev pub SolvedHasAShape : Type 0
SolvedHasAShape =
    (x y : SelectorParts) (v : Nodes) (bx ax by ay : ℕ → ℕ) (root child : Bool) → Solved x y v bx ax by ay root child →
    (shape : ShapeParts) × ValidShape x y shape

-- Where a shape fits, all conditions hold of some nodes and numbers; where its numbers of siblings are below a
-- bound, these numbers are so too.
abbrev pub ShapesAreSolved : Type 0
ShapesAreSolved =
    (bound : ℕ) (x y : SelectorParts) (shape : ShapeParts) → length x.chain ≡ suc (length x.links) → length y.chain ≡ suc (length y.links) →
    ValidShape x y shape → ((k : ℕ) → slice_index shape.before k < bound) → ((k : ℕ) → slice_index shape.after k < bound) →
    (v : Nodes) × (bx : ℕ → ℕ) × (ax : ℕ → ℕ) × (by : ℕ → ℕ) × (ay : ℕ → ℕ)
    × Solved x y v bx ax by ay shape.top_is_root shape.root_is_child
    × ((i : ℕ) → bx i < bound) × ((i : ℕ) → ax i < bound) × ((j : ℕ) → by j < bound) × ((j : ℕ) → ay j < bound)
