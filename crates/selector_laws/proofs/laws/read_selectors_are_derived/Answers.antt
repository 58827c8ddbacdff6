use Rattle.selector_laws.proofs.DerivedStates.{derived}
use Rattle.selector_laws.proofs.laws.read_selectors_are_derived.Goals as goal

pub returns : goal.returns
returns c = derived
