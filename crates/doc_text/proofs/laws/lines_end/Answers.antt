use Rattle.doc_text.proofs.Differ.{lines_end}
use Rattle.doc_text.proofs.laws.lines_end.Goals as goal

pub returns : goal.returns
returns c = lines_end
