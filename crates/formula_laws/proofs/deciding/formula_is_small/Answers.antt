use Rattle.std.proofs.Common.{arith}
use Rattle.formula_laws.proofs.Sizes.FormulaSizes.{formula_size}
use Rattle.formula_laws.proofs.deciding.formula_is_small.Goals as goal

pub returns : goal.returns
returns c = λ width x y allowed wide few few'. formula_size width x y allowed wide (omega arith) (omega arith)
