use Rattle.pending_laws.proofs.Queued.{goes_over}
use Rattle.pending_laws.proofs.candidates.pending_goes_over.Goals as goal

pub returns : goal.returns
returns c = goes_over c.steps_have_been.ensures c.hindered_goes_on.ensures
