use Rattle.selector_text_laws.proofs.Notation.Shortest.{text_is_shortest}
use Rattle.selector_text_laws.proofs.notations.notation_text_is_shortest.Goals as goal

pub returns : goal.returns
returns c = text_is_shortest
