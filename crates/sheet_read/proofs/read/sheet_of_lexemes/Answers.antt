use Rattle.std.proofs.Common.{ℕ, ◌≡◌, [], ◌∷◌, Option, Some, None, Ok, sym, ap, ◌∙◌, arith}
use Rattle.std.proofs.lemmas.Result.{err_from_is_err_and}
use Rattle.css_model.specs.declared.fault.FaultKind.TheVariants.{TooManyPairs}
use Rattle.css_model.specs.Sheets.Sheet.{sheet_of, too_many_pairs}
use Rattle.css_model.specs.Sheets.Fault.{unless, fault_of}
use Rattle.sheet_read.specs.Steps as steps
use Rattle.sheet_read.proofs.Rooms.{stand_pairs}
use Rattle.sheet_read.proofs.SheetSteps.{lexed_read, lexed_placed, imports_read, imports_counted, imports_fault, items_read, items_fault, refused}
use Rattle.sheet_read.proofs.read.sheet_of_lexemes.Goals as goal

pub imports_of-requires : goal.imports_of-requires
imports_of-requires c = lexed_placed c.tokens_cover.ensures c.args.source.now c.args.lexemes.now c.requires.lexed

pub returns-in_err-imports : goal.returns-in_err-imports
returns-in_err-imports c =
    let source = c.args.source.now in
    let xs = c.args.lexemes.now in
    let whole = lexed_read source xs c.requires.short c.requires.lexed in
    let p = err_from_is_err_and c.from_residual.result c.from_residual.ensures.1 in
    rw (p.1, p.2) (whole ∙ imports_fault source (steps.whole_items xs) c.in_err-imports.field-0.0 (sym c.in_err-imports.ensures))

pub items_of-requires-clause-placed : goal.items_of-requires-clause-placed
items_of-requires-clause-placed c = lexed_placed c.tokens_cover.ensures c.args.source.now c.args.lexemes.now c.requires.lexed

pub items_of-requires-clause-imports : goal.items_of-requires-clause-imports
items_of-requires-clause-imports c = imports_counted c.args.source.now (steps.whole_items c.args.lexemes.now) c.in_ok-imports.imports (sym c.in_ok-imports.ensures)

pub returns-in_err-items : goal.returns-in_err-items
returns-in_err-items c =
    let source = c.args.source.now in
    let xs = c.args.lexemes.now in
    let raw = steps.whole_items xs in
    let named = lexed_read source xs c.requires.short c.requires.lexed ∙ imports_read source raw c.in_ok-imports.imports (sym c.in_ok-imports.ensures) in
    let p = err_from_is_err_and c.from_residual-in_err-items.result c.from_residual-in_err-items.ensures.1 in
    rw (p.1, p.2) (refused c.in_err-items.field-0.0 (steps.items_of source raw) (sheet_of source) (λ f h. named ∙ items_fault source raw f h) c.in_err-items.ensures)

pub returns-in-Some : goal.returns-in-Some
returns-in-Some c =
    let source = c.args.source.now in
    let xs = c.args.lexemes.now in
    let raw = steps.whole_items xs in
    let named = lexed_read source xs c.requires.short c.requires.lexed ∙ imports_read source raw c.in_ok-imports.imports (sym c.in_ok-imports.ensures) in
    let given = c.in_ok-items.ensures in
    let items = given.0 in
    let counted = named ∙ items_read source raw items given.1 in
    let stand = stand_pairs 0 c.in_ok-items.items.items items (omega arith) given.2 in
    let pairs : too_many_pairs 0 items ≡ Some c.in-Some.at = sym stand.0 ∙ ap (too_many_pairs 0) (sym c.as_slice.ensures.value) ∙ sym c.in-Some.ensures in
    counted ∙ ap (λ (at : Option ℕ). unless (fault_of TooManyPairs at ∷ []) items) pairs

pub returns-in-None : goal.returns-in-None
returns-in-None c =
    let source = c.args.source.now in
    let xs = c.args.lexemes.now in
    let raw = steps.whole_items xs in
    let named = lexed_read source xs c.requires.short c.requires.lexed ∙ imports_read source raw c.in_ok-imports.imports (sym c.in_ok-imports.ensures) in
    let given = c.in_ok-items.ensures in
    let items = given.0 in
    let counted = named ∙ items_read source raw items given.1 in
    let stand = stand_pairs 0 c.in_ok-items.items.items items (omega arith) given.2 in
    let pairs : too_many_pairs 0 items ≡ None = sym stand.0 ∙ ap (too_many_pairs 0) (sym c.as_slice.ensures.value) ∙ sym c.in-None.ensures in
    counted ∙ ap (λ (at : Option ℕ). unless (fault_of TooManyPairs at ∷ []) items) pairs ∙ ap Ok (sym (stand.1 pairs))
