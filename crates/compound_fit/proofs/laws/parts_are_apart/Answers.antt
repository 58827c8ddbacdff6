use Rattle.compound_fit.proofs.ByParts.{parts_apart}
use Rattle.compound_fit.proofs.laws.parts_are_apart.Goals as goal

pub returns : goal.returns
returns c = parts_apart
