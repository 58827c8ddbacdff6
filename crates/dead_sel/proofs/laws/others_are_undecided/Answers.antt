use Rattle.dead_sel.proofs.Apart.{undecided}
use Rattle.dead_sel.proofs.laws.others_are_undecided.Goals as goal

pub returns : goal.returns
returns c = undecided c.profile_keeps_the_limits.ensures
