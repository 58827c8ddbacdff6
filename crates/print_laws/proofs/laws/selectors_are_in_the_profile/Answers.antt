use Rattle.print_laws.proofs.Profile.{printed-selectors, selectors-in-profile}
use Rattle.print_laws.proofs.laws.selectors_are_in_the_profile.Goals as goal

pub returns : goal.returns
returns c = record { one = printed-selectors; all = selectors-in-profile }
