use Rattle.sheet_grammar.proofs.SheetProofs.{sheets_are_those_of_the_grammar}
use Rattle.sheet_grammar.proofs.laws.sheets_are_those_of_the_grammar.Goals as goal

pub returns : goal.returns
returns c = sheets_are_those_of_the_grammar c.selectors_are_read_exactly.ensures
