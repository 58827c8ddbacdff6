use Rattle.pending_laws.proofs.Queued.{first_taken}
use Rattle.pending_laws.proofs.candidates.first_candidate_is_taken.Goals as goal

pub returns : goal.returns
returns c = first_taken c.hindered_is_blocked.ensures c.first_is_next.ensures
