use Rattle.selector_text_laws.proofs.Notation.Tokens.{text_stands}
use Rattle.selector_text_laws.proofs.notations.notation_text_stands_before_signs.Goals as goal

pub returns : goal.returns
returns c = text_stands
