use Rattle.sheet_grammar.proofs.StackProofs.{brackets_match}
use Rattle.sheet_grammar.proofs.laws.brackets_match.Goals as goal

pub returns : goal.returns
returns c = brackets_match
