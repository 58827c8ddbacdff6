use Rattle.merge_laws.proofs.Limits.{within_limits}
use Rattle.merge_laws.proofs.reading.read_keeps_the_limits.Goals as goal

pub returns : goal.returns
returns c = within_limits
