use Rattle.cssmin_run.proofs.Differences.{order_true, sheets_alike}
use Rattle.cssmin_run.proofs.laws.told_differences_are_true.Goals as goal

pub returns-clause-same : goal.returns-clause-same
returns-clause-same c = sheets_alike c.same_text_means_same.ensures c.same_members_win_alike.ensures c.some_may_be_told.ensures

pub returns-clause-order : goal.returns-clause-order
returns-clause-order c = order_true c.told_couples_show_order.ensures c.told_winners_win.ensures.differ
