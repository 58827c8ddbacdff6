use Rattle.std.proofs.Common.{◌∙◌, sym}
use Rattle.style_text.proofs.Splitting.{begins_full, first_found}
use Rattle.style_text.proofs.split.split_input.Goals as goal

pub split_behind_line-requires : goal.split_behind_line-requires
split_behind_line-requires c = begins_full c.args.input.now c.in-None.ensures.cases

pub returns-in-Some-clause-document : goal.returns-in-Some-clause-document
returns-in-Some-clause-document c = sym (first_found c.args.input.now c.in-Some.ensures.cases.0).0

pub returns-in-Some-clause-sheet : goal.returns-in-Some-clause-sheet
returns-in-Some-clause-sheet c = c.in-Some.ensures.cases.1 ∙ sym (first_found c.args.input.now c.in-Some.ensures.cases.0).1
