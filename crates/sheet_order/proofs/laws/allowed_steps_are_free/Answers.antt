use Rattle.sheet_order.proofs.Permission.{allowed_steps_are_free}
use Rattle.sheet_order.proofs.laws.allowed_steps_are_free.Goals as goal

pub returns : goal.returns
returns c = allowed_steps_are_free c.listed_stands_last.ensures c.listed_is_reversed.ensures c.steps_rearrange.ensures
