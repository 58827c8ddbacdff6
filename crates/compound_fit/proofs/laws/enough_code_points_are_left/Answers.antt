use Rattle.compound_fit.proofs.Left.{enough_left}
use Rattle.compound_fit.proofs.laws.enough_code_points_are_left.Goals as goal

pub returns : goal.returns
returns c = enough_left
