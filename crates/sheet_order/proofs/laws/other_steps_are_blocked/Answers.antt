use Rattle.sheet_order.proofs.Permission.{other_steps_are_blocked}
use Rattle.sheet_order.proofs.laws.other_steps_are_blocked.Goals as goal

pub returns : goal.returns
returns c = other_steps_are_blocked c.listed_is_reversed.ensures
