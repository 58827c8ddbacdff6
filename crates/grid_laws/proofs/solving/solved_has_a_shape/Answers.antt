use Rattle.grid_laws.proofs.solving.solved_has_a_shape.Goals as goal
use Rattle.grid_laws.specs.Slots.{shape_by}

pub returns : goal.returns
returns c = λ x y v bx ax by ay root child s. (shape_by x y v bx ax by ay root child, c.solved_shapes_fit.ensures x y v bx ax by ay root child s)
