use Rattle.selector_text_laws.proofs.ReadBack.{selector_texts_are_lexed}
use Rattle.selector_text_laws.proofs.laws.selector_texts_are_lexed.Goals as goal

pub returns : goal.returns
returns c = selector_texts_are_lexed
