use Rattle.std.proofs.Common.{sym, ap, ◌∙◌, subst}
use Rattle.std.proofs.lemmas.Result.{err_from_is_err_and}
use Rattle.sheet_read.specs.Reading.{Answers}
use Rattle.sheet_read.specs.Steps as steps
use Rattle.sheet_read.proofs.lexing.lexemes_of.Goals as goal

pub returns-in_err-reader : goal.returns-in_err-reader
returns-in_err-reader c =
    let p = err_from_is_err_and c.from_residual.result c.from_residual.ensures.1 in
    rw (p.1, p.2) (ap steps.lexed c.in_err-reader.ensures)

pub returns : goal.returns
returns c =
    subst (Answers (λ lexemes. lexemes.items) c.sorted.result) (ap steps.sorted c.in_ok-reader.ensures.0 ∙ ap steps.lexed (sym c.in_ok-reader.ensures.1)) c.sorted.ensures
