use Rattle.diff_laws.proofs.ForCallers.{all_tally}
use Rattle.told_laws.proofs.Competing.{others_differ, told_wins}
use Rattle.told_laws.proofs.reversed.told_winners_win.Goals as goal

pub returns-clause-each : goal.returns-clause-each
returns-clause-each c = told_wins all_tally

pub returns-clause-differ : goal.returns-clause-differ
returns-clause-differ c = others_differ all_tally
