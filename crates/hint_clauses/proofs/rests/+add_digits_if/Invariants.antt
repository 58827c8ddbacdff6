use Rattle.std.proofs.Common.{length}
use Rattle.hint_clauses.proofs.rests.+add_digits_if.Given as goal

abbrev pub decreases-add_digits_if : goal.decreases-add_digits_if
decreases-add_digits_if l = length l.digits.now
