use Rattle.compare_text.proofs.HeldLogs.{logs_pass}
use Rattle.compare_text.proofs.laws.logs_pass.Goals as goal

pub returns : goal.returns
returns c = logs_pass c.ledgers_are_logs.ensures.refute c.refuting_logs_pass.ensures
