use Rattle.std.proofs.Common.{append_assoc, rules}
use Rattle.doc_text.proofs.line.push_line.Goals as goal

pub returns : goal.returns
returns c = search (rules, append_assoc)
