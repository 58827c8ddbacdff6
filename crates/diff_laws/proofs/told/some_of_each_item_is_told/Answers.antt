use Rattle.diff_laws.proofs.Telling.{some_told}
use Rattle.diff_laws.proofs.told.some_of_each_item_is_told.Goals as goal

pub returns : goal.returns
returns c = some_told
