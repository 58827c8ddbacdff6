use Rattle.sheet_grammar.proofs.FaultProofs.{faults_are_those_of_the_grammar}
use Rattle.sheet_grammar.proofs.laws.faults_are_those_of_the_grammar.Goals as goal

pub returns : goal.returns
returns c = faults_are_those_of_the_grammar c.selectors_are_read_exactly.ensures
