use Rattle.dead_sel.proofs.Apart.{match_nothing}
use Rattle.dead_sel.proofs.laws.dead_match_nothing.Goals as goal

pub returns : goal.returns
returns c = match_nothing c.apart_selectors_do_not_meet.ensures
