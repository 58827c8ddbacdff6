use Rattle.cssmin_run.proofs.Forms.{blockers_placed, diff_placed, done_is, fault_placed, front_is, inspect_placed, lint_placed, only_two, read_fault_is, refused_is, second_placed, told_is, write_fault_is}
use Rattle.cssmin_run.proofs.Remaining.{remaining}
use Rattle.cssmin_run.proofs.laws.each_status_has_its_cause.Goals as goal

pub returns-clause-done : goal.returns-clause-done
returns-clause-done c = done_is

pub returns-clause-remaining : goal.returns-clause-remaining
returns-clause-remaining c = remaining c.remaining_steps_are_blocked.ensures

pub returns-clause-refused : goal.returns-clause-refused
returns-clause-refused c = refused_is

pub returns-clause-read_fault : goal.returns-clause-read_fault
returns-clause-read_fault c = read_fault_is

pub returns-clause-write_fault : goal.returns-clause-write_fault
returns-clause-write_fault c = write_fault_is

pub returns-clause-told : goal.returns-clause-told
returns-clause-told c = told_is

pub returns-clause-front : goal.returns-clause-front
returns-clause-front c = front_is

pub returns-clause-placed : goal.returns-clause-placed
returns-clause-placed c = fault_placed

pub returns-clause-lint_placed : goal.returns-clause-lint_placed
returns-clause-lint_placed c = lint_placed

pub returns-clause-found : goal.returns-clause-found
returns-clause-found c = only_two

pub returns-clause-blockers_placed : goal.returns-clause-blockers_placed
returns-clause-blockers_placed c = blockers_placed

pub returns-clause-diff_placed : goal.returns-clause-diff_placed
returns-clause-diff_placed c = diff_placed

pub returns-clause-second_placed : goal.returns-clause-second_placed
returns-clause-second_placed c = second_placed

pub returns-clause-inspect_placed : goal.returns-clause-inspect_placed
returns-clause-inspect_placed c = inspect_placed
