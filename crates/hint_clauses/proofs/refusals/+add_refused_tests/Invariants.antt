use Rattle.std.proofs.Common.{length}
use Rattle.hint_clauses.proofs.refusals.+add_refused_tests.Given as goal

abbrev pub decreases-add_refused_tests : goal.decreases-add_refused_tests
decreases-add_refused_tests l = length l.tests.now
