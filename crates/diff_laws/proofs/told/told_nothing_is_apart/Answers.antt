use Rattle.diff_laws.proofs.Telling.{none_found}
use Rattle.diff_laws.proofs.told.told_nothing_is_apart.Goals as goal

pub returns : goal.returns
returns c = none_found
