-- What a slot holds, as contracts see it.
use Rattle.grid_laws.specs.Grid as grid
use Rattle.shape_decode.specs.declared.nodes.Lays.{Lays}
use Rattle.shape_decode.specs.declared.nodes.Lays.TheVariants.{LeftAlone, RightAlone, Together}

-- that of a node
abbrev pub lays_of : Lays → grid.Lays
lays_of LeftAlone = grid.left_alone
lays_of RightAlone = grid.right_alone
lays_of Together = grid.together
