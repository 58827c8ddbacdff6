use Rattle.selector_text_laws.proofs.ReadBack.{selectors_read_back}
use Rattle.selector_text_laws.proofs.laws.selectors_read_back.Goals as goal

pub returns : goal.returns
returns c = selectors_read_back
