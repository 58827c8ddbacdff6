use Rattle.std.proofs.Common.{◌≡◌, List, ℕ, Result, Ok, Err, sym, ◌∙◌}
use Rattle.css_model.specs.declared.fault.SheetFault.{SheetFault}
use Rattle.css_model.specs.declared.sheet.Item.{Item}
use Rattle.css_model.specs.Sheets.Sheet.{sheet_of}
use Rattle.sheet_read.specs.Steps as steps
use Rattle.sheet_read.proofs.ForCallers.{lexed_fault, lexed_same}
use Rattle.media_groups.proofs.Counts.{read_facts}
use Rattle.media_groups.proofs.reading.reading_of.Goals as goal

-- a source that is read has no fault of its tokens
not_refused : (source : List ℕ) (items : List Item) (fault : SheetFault) → sheet_of source ≡ Ok items → steps.lexed (steps.tokens_of source) ≡ Err fault → ⊥
not_refused source items fault read refused =
    let both : ◌≡◌ {A = Result (List Item) SheetFault} (Ok items) (Err fault) = sym read ∙ lexed_fault source fault (read_facts source items read).short refused in
    cc

pub lexemes_of-requires : goal.lexemes_of-requires
lexemes_of-requires c = (read_facts c.args.source.now c.args.sheet.now.items c.requires).short

pub reading_with-requires-clause-tokens : goal.reading_with-requires-clause-tokens
reading_with-requires-clause-tokens c = lexed_same c.args.source.now c.in-Ok.lexemes.items c.in-Ok.ensures

pub unreachable-requires : goal.unreachable-requires
unreachable-requires c = not_refused c.args.source.now c.args.sheet.now.items c.in-Err-Fault.field-0-0 c.requires (rw c.in-Err-Fault.field-0-is at c.in-Err-Fault.ensures)
