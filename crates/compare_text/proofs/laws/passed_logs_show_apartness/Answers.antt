use Rattle.compare_text.proofs.HeldLogs.{passed_logs_show_apartness}
use Rattle.compare_text.proofs.laws.passed_logs_show_apartness.Goals as goal

pub returns : goal.returns
returns c = passed_logs_show_apartness c.profile_keeps_the_limits.ensures c.meeting_satisfies_the_formula.ensures c.yes_refutes_the_formula.ensures
