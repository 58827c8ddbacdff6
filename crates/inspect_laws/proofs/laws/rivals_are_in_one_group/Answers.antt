use Rattle.inspect_laws.proofs.Groups.{in_one_group}
use Rattle.inspect_laws.proofs.laws.rivals_are_in_one_group.Goals as goal

pub returns : goal.returns
returns c = in_one_group
