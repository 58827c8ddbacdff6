use Rattle.rup_check.proofs.LogLemmas.{refutation-refutes}
use Rattle.rup_check.proofs.laws.checked_log_refutes.Goals as goal

pub returns : goal.returns
returns c = refutation-refutes
