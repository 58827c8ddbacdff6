use Rattle.compare_text.proofs.Truth.{disjoint_is_apart}
use Rattle.compare_text.proofs.laws.disjoint_selectors_do_not_meet.Goals as goal

pub returns : goal.returns
returns c = λ x y pairs text is same meet. disjoint_is_apart x y pairs text c.apart_selectors_do_not_meet.ensures is same meet
