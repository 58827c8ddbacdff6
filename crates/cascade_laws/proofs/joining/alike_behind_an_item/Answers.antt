use Rattle.cascade_laws.proofs.ApplyingAlike.{behind_an_item}
use Rattle.cascade_laws.proofs.joining.alike_behind_an_item.Goals as goal

pub returns : goal.returns
returns c = behind_an_item
