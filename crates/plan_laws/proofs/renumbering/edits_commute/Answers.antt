use Rattle.plan_laws.proofs.Barrier.Renumbers.{edits_commute}
use Rattle.plan_laws.proofs.renumbering.edits_commute.Goals as goal

pub returns : goal.returns
returns c = edits_commute
