use Rattle.order_laws.proofs.ReversedKeys.{keys_tell_apart}
use Rattle.order_laws.proofs.reversed.keys_tell_apart.Goals as goal

pub returns : goal.returns
returns c = keys_tell_apart c.relating_is_decided.ensures
