use Rattle.token_grammar.proofs.AllTexts.{tokens_are_those_of_the_grammar}
use Rattle.token_grammar.proofs.laws.tokens_are_those_of_the_grammar.Goals as goal

pub returns : goal.returns
returns c = tokens_are_those_of_the_grammar
