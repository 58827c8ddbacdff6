use Rattle.run_laws.proofs.Leading.{runs_lead}
use Rattle.run_laws.proofs.runs.runs_lead.Goals as goal

pub returns : goal.returns
returns c = runs_lead
