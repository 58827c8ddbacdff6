use Rattle.rup_check.proofs.BackLemmas.{logs_have_no_fault, texts_are_of_one_log}
use Rattle.rup_check.proofs.laws.printed_logs_read_back.Goals as goal

pub returns : goal.returns
returns c = record { one = texts_are_of_one_log; sound = logs_have_no_fault }
