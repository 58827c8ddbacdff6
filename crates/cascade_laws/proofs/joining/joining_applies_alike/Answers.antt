use Rattle.cascade_laws.proofs.ApplyingAlike.{joining_anywhere}
use Rattle.cascade_laws.proofs.joining.joining_applies_alike.Goals as goal

pub returns : goal.returns
returns c = joining_anywhere
