use Rattle.inspect_laws.proofs.Winning.{lost_never}
use Rattle.inspect_laws.proofs.laws.lost_never_wins.Goals as goal

pub returns : goal.returns
returns c = lost_never
