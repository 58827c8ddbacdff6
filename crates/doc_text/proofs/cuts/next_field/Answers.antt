use Rattle.std.proofs.Common.{ap, ◌∙◌}
use Rattle.css_model.specs.Text.Characters.{space}
use Rattle.doc_text.specs.Lines.{fields_of}
use Rattle.doc_text.proofs.Pieces.{pieces_cut, pieces_whole}
use Rattle.doc_text.proofs.cuts.next_field.Goals as goal

pub returns-in-Some-clause-fields : goal.returns-in-Some-clause-fields
returns-in-Some-clause-fields c some =
    let e = c.in-Some.ensures in
    ap fields_of e.0 ∙ pieces_cut space c.in-Some.parts.0.now c.in-Some.parts.1.now e.1

pub returns-in-None-clause-fields : goal.returns-in-None-clause-fields
returns-in-None-clause-fields c some = pieces_whole space c.args.text.now some c.in-None.ensures
