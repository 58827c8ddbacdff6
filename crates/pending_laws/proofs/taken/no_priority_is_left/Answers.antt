use Rattle.std.proofs.Common.{[]}
use Rattle.pending_laws.proofs.taken.no_priority_is_left.Goals as goal

pub returns : goal.returns
returns c = λ answers source items waits watched pending queued. c.none_waits_is_done.ensures answers source items (c.pending_steps_are_covered.ensures answers source items waits watched [] pending queued)
