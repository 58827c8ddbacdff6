use Rattle.token_grammar.proofs.Unescaped.{names_are_unescaped}
use Rattle.token_grammar.proofs.laws.names_are_unescaped.Goals as goal

pub returns : goal.returns
returns c = names_are_unescaped
