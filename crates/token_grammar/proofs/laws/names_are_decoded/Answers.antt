use Rattle.token_grammar.proofs.Unescaped.{names_are_decoded}
use Rattle.token_grammar.proofs.laws.names_are_decoded.Goals as goal

pub returns : goal.returns
returns c = names_are_decoded
