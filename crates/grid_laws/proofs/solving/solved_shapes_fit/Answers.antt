use Rattle.std.proofs.Common.{Bool, [], arith, false, length, refl, true, ℕ, ◌+◌, ◌≡◌}
use Rattle.std.specs.Prelude.{if◌then◌else◌}
use Rattle.css_model.specs.Documents.SelectorParts.{SelectorParts}
use Rattle.grid_laws.proofs.ToShape.SolvedShape.{counted_shape}
use Rattle.grid_laws.proofs.ToShape.Uncounted.{uncounted_shape}
use Rattle.grid_laws.proofs.Walks.Pending.{pending_none}
use Rattle.grid_laws.proofs.Walks.Strolling.{stroll}
use Rattle.grid_laws.proofs.solving.solved_shapes_fit.Goals as goal
use Rattle.grid_laws.specs.Grid.{Nodes, together}
use Rattle.grid_laws.specs.Slots.{numbered, row_before, shape_by, shape_of, slots_from}
use Rattle.grid_laws.specs.Solved.{Solved, numbers_asked}
use Rattle.slot_plan.specs.ValidShape.{ValidShape}

-- with the numbers, where some test looks at them
shape_fits : (x y : SelectorParts) (v : Nodes) (bx ax by ay : ℕ → ℕ) (root child : Bool) → Solved x y v bx ax by ay root child → ValidShape x y (shape_by x y v bx ax by ay root child)
shape_fits x y v bx ax by ay root child s = split (numbers_asked x y) refl
  where
    split : (b : Bool) → numbers_asked x y ≡ b → ValidShape x y (if b then shape_of (bx 0) (ax 0) root child (slots_from (length x.links + length y.links) x.links y.links v bx ax by ay 0 0 (bx 0))
        else shape_of (row_before (slots_from (length x.links + length y.links) x.links y.links v bx ax by ay 0 0 (bx 0))) 0 root child (numbered 0 (slots_from (length x.links + length y.links) x.links y.links v bx ax by ay 0 0 (bx 0))))
    split true e = counted_shape x y v bx ax by ay root child (s.counted e) s
    split false e = uncounted_shape x y v bx ax by ay root child e s _
        (stroll (length x.links + length y.links) x.links y.links v bx ax by ay together [] [] 0 (bx 0) (omega arith) s.grid s.start (pending_none x.links) (pending_none y.links))

pub returns : goal.returns
returns c = shape_fits
