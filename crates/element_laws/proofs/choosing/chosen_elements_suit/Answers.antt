use Rattle.element_laws.proofs.Fresh.{elements_suit}
use Rattle.element_laws.proofs.choosing.chosen_elements_suit.Goals as goal

pub returns : goal.returns
returns c = elements_suit
