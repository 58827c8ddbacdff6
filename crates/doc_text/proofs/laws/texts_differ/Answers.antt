use Rattle.doc_text.proofs.Differ.{texts_differ}
use Rattle.doc_text.proofs.laws.texts_differ.Goals as goal

pub returns : goal.returns
returns c = texts_differ
