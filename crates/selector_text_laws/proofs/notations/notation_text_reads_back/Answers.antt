use Rattle.selector_text_laws.proofs.Notation.Shapes.{text_is_notation, text_is_read}
use Rattle.selector_text_laws.proofs.notations.notation_text_reads_back.Goals as goal

pub returns : goal.returns
returns c = record { notation = text_is_notation; read = text_is_read }
