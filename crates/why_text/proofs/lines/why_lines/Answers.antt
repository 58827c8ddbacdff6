use Rattle.css_model.specs.Sheets.Sheet.{sheet_of}
use Rattle.why_text.proofs.Moves.{asks_none}
use Rattle.why_text.proofs.lines.why_lines.Goals as goal

pub returns-in_err-sheet-clause-asks : goal.returns-in_err-sheet-clause-asks
returns-in_err-sheet-clause-asks c = asks_none (sheet_of c.args.text.now) c.args.from c.args.to c.args.pairs.now
