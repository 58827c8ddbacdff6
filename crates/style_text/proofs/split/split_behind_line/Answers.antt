use Rattle.std.proofs.Common.{◌∙◌, sym}
use Rattle.style_text.proofs.Splitting.{found, not_found, rest_of}
use Rattle.style_text.proofs.split.split_behind_line.Goals as goal

pub returns-in-Some-clause-document : goal.returns-in-Some-clause-document
returns-in-Some-clause-document c = sym (found c.args.input.now c.in-Some.at c.requires c.in-Some.ensures).0

pub returns-in-Some-clause-sheet : goal.returns-in-Some-clause-sheet
returns-in-Some-clause-sheet c = rest_of _ c.args.input.now ∙ sym (found c.args.input.now c.in-Some.at c.requires c.in-Some.ensures).1

pub returns-in-None-clause-document : goal.returns-in-None-clause-document
returns-in-None-clause-document c = sym (not_found c.args.input.now c.requires c.in-None.ensures).0

pub returns-in-None-clause-sheet : goal.returns-in-None-clause-sheet
returns-in-None-clause-sheet c = sym (not_found c.args.input.now c.requires c.in-None.ensures).1
