use Rattle.pending_laws.proofs.Queued.{leads_on}
use Rattle.pending_laws.proofs.candidates.candidates_go_on.Goals as goal

pub returns : goal.returns
returns c = leads_on
