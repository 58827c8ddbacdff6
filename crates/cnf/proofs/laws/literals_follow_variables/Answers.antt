use Rattle.cnf.proofs.LitLemmas.{value-negation, value-positive, value-append}
use Rattle.cnf.proofs.laws.literals_follow_variables.Goals as goal

pub returns : goal.returns
returns c = record { negation = value-negation; positive = value-positive; more = value-append }
