use Rattle.pending_laws.proofs.Been.{no_step_adds_pairs}
use Rattle.pending_laws.proofs.before.no_step_adds_pairs.Goals as goal

pub returns : goal.returns
returns c = no_step_adds_pairs c.steps_rearrange.ensures
