use Rattle.log_text.proofs.Answers.{yes_refutes}
use Rattle.log_text.proofs.laws.yes_refutes_the_formula.Goals as goal

pub returns : goal.returns
returns c = yes_refutes c.checked_log_refutes.ensures c.printed_logs_read_back.ensures.one
