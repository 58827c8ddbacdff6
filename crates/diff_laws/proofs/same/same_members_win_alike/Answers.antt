use Rattle.diff_laws.proofs.Tallying.{all_tally}
use Rattle.diff_laws.proofs.Winning.{win_alike}
use Rattle.diff_laws.proofs.same.same_members_win_alike.Goals as goal

pub returns : goal.returns
returns c =
    win_alike (record { apart = c.apart_selectors_do_not_meet.ensures; matching = c.matching_is_decided.ensures; weighing = c.weighing_is_decided.ensures }) all_tally
