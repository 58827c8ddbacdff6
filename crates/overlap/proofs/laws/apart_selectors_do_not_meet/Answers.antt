use Rattle.overlap.proofs.Apartness as apartness
use Rattle.overlap.proofs.laws.apart_selectors_do_not_meet.Goals as goal

pub returns : goal.returns
returns c = apartness.apart_selectors_do_not_meet
