use Rattle.pending_laws.proofs.Queued.{none_left}
use Rattle.pending_laws.proofs.candidates.no_candidate_is_done.Goals as goal

pub returns : goal.returns
returns c = none_left c.hindered_is_blocked.ensures c.none_waits_is_done.ensures
