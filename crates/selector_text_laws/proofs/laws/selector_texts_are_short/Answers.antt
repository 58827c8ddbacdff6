use Rattle.selector_text_laws.proofs.ReadBack.{selector_texts_are_short}
use Rattle.selector_text_laws.proofs.laws.selector_texts_are_short.Goals as goal

pub returns : goal.returns
returns c = selector_texts_are_short
