use Rattle.cnf.proofs.PropagationLemmas.{follows-from_forced}
use Rattle.cnf.proofs.laws.forced_clause_follows.Goals as goal

pub returns : goal.returns
returns c = follows-from_forced
