use Rattle.cssmin_run.proofs.Budgets.{held_true, none_spent}
use Rattle.cssmin_run.proofs.laws.held_answers_are_true.Goals as goal

pub returns-clause-all_true : goal.returns-clause-all_true
returns-clause-all_true c = held_true

pub returns-clause-unspent : goal.returns-clause-unspent
returns-clause-unspent c = none_spent
