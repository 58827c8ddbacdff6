use Rattle.inspect_text.proofs.Told.{each_line, told}
use Rattle.inspect_text.proofs.laws.entries_are_told.Goals as goal

pub returns-clause-told : goal.returns-clause-told
returns-clause-told c = told c.texts_differ.ensures

pub returns-clause-each : goal.returns-clause-each
returns-clause-each c = each_line
