use Rattle.std.proofs.Common.{◌<◌}
use Rattle.grid_laws.proofs.FromShape.ShapeSolved.{solved_with}
use Rattle.grid_laws.proofs.solving.shapes_are_solved.Goals as goal

pub returns : goal.returns
returns c = λ bound. solved_with (λ n. n < bound)
