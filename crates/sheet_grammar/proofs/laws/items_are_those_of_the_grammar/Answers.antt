use Rattle.sheet_grammar.proofs.ItemProofs.{items_are_those_of_the_grammar}
use Rattle.sheet_grammar.proofs.laws.items_are_those_of_the_grammar.Goals as goal

pub returns : goal.returns
returns c = items_are_those_of_the_grammar
