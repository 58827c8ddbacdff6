use Rattle.std.proofs.Common.{ℕ, List, sym, subst, ap, ◌∙◌, arith}
use Rattle.std.specs.Str.{IsAscii}
use Rattle.std.proofs.lemmas.Bool.{false≢true}
use Rattle.std.proofs.lemmas.Bool.Decides.{Decides-eqb}
use Rattle.std.proofs.lemmas.Fmt.{IsAscii-decimal, parse-decimal}
use Rattle.std.proofs.lemmas.Slice.Eq.{slice_eq-Decides}
use Rattle.std.proofs.lemmas.Str.{IsUtf8-from_ascii}
use Rattle.std.specs.Prelude.{decimal}
use Rattle.rup_check.proofs.FrontLemmas.{ok≢err, ok-same}
use Rattle.rup_check.proofs.fronts.value.Goals as goal

pub returns-in-Err : goal.returns-in-Err
returns-in-Err c n b e =
    let P : List ℕ → Type 0 = λ bs. IsAscii bs in
    c.in-Err.ensures.cases.0 (IsUtf8-from_ascii c.args.digits.now (subst P (sym e) (IsAscii-decimal n (omega arith))))

pub returns-in-Err-parse : goal.returns-in-Err-parse
returns-in-Err-parse c n b e =
    let read = parse-decimal 32 n c.in-Ok.text.now c.parse.result (omega arith) (omega arith) (c.in-Ok.ensures.cases.0 ∙ e) c.parse.ensures.value.0 in
    ok≢err c.in-Err-parse.field-0 n (sym c.in-Err-parse.is ∙ read)

pub returns-else-eq : goal.returns-else-eq
returns-else-eq c n b e =
    let read = parse-decimal 32 n c.in-Ok.text.now c.parse.result (omega arith) (omega arith) (c.in-Ok.ensures.cases.0 ∙ e) c.parse.ensures.value.0 in
    let same = ok-same c.in-Ok-parse.number n (sym c.in-Ok-parse.is ∙ read) in
    let d = slice_eq-Decides Decides-eqb _ _ _ c.eq.ensures in
    false≢true (sym c.if-eq.false ∙ d.1 (c.as_bytes.ensures.value ∙ (c.format.ensures.text ∙ (ap decimal same ∙ sym e))))
