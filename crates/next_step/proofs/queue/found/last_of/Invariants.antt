use Rattle.std.proofs.Common.{◌<◌, length}
use Rattle.next_step.proofs.queue.found.last_of.Given as goal

abbrev pub invariant-numbers : goal.invariant-numbers
invariant-numbers l = l.last < length l.candidates
