use Rattle.inspect_laws.proofs.Ranks.{differ}
use Rattle.inspect_laws.proofs.laws.ranks_differ.Goals as goal

pub returns : goal.returns
returns c = differ
