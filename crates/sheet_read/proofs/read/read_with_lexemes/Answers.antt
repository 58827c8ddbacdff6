use Rattle.std.proofs.Common.{◌≤◌, length, arith}
use Rattle.std.proofs.lemmas.Result.{err_from_is_err_and}
use Rattle.css_model.specs.declared.limits.TheConstants.{MAX_BYTES}
use Rattle.css_model.specs.Sheets.Sheet.{sheet_of}
use Rattle.sheet_read.specs.Steps as steps
use Rattle.sheet_read.proofs.SheetSteps.{lexed_fault, lexed_same, refused}
use Rattle.sheet_read.proofs.read.read_with_lexemes.Goals as goal

pub returns-in_err-lexemes-clause-sheet : goal.returns-in_err-lexemes-clause-sheet
returns-in_err-lexemes-clause-sheet c =
    let source = c.args.source.now in
    let le : length source ≤ MAX_BYTES = omega arith in
    let p = err_from_is_err_and c.from_residual.result c.from_residual.ensures.1 in
    rw (p.1, p.2) (refused c.in_err-lexemes.field-0.0 (steps.lexed (steps.tokens_of source)) (sheet_of source) (λ f h. lexed_fault source f le h) c.in_err-lexemes.ensures)

pub returns-clause-lexemes : goal.returns-clause-lexemes
returns-clause-lexemes c = lexed_same c.args.source.now c.in_ok-lexemes.lexemes.items c.in_ok-lexemes.ensures
