use Rattle.log_text.proofs.Answers.{refuting_logs_pass}
use Rattle.log_text.proofs.laws.refuting_logs_pass.Goals as goal

pub returns : goal.returns
returns c = refuting_logs_pass c.refutations_pass.ensures c.printed_logs_read_back.ensures.one c.printed_logs_read_back.ensures.sound
