use Rattle.std.proofs.Common.{◌≡◌, Ok, Err, sym, ◌∙◌, subst, arith}
use Rattle.std.specs.Str.{IsUtf8}
use Rattle.std.specs.Prelude.{decimal}
use Rattle.std.proofs.lemmas.Fmt.{IsAscii-decimal, parse-decimal}
use Rattle.std.proofs.lemmas.Str.{IsUtf8-from_ascii}
use Rattle.doc_text.proofs.line.number.Goals as goal

pub returns-in-Ok-parse : goal.returns-in-Ok-parse
returns-in-Ok-parse c n small is =
    let same : c.in-Ok.text.now ≡ c.args.bytes.now = c.in-Ok.ensures.cases.0 in
    let read = parse-decimal 32 n c.in-Ok.text.now c.parse.result small (omega (arith, small)) (same ∙ is) c.parse.ensures.value.0 in
    let both : Ok c.in-Ok-parse.number ≡ Ok n = sym c.in-Ok-parse.is ∙ read in
    cc

pub returns-in-Err-parse : goal.returns-in-Err-parse
returns-in-Err-parse c n small is =
    let same : c.in-Ok.text.now ≡ c.args.bytes.now = c.in-Ok.ensures.cases.0 in
    let read = parse-decimal 32 n c.in-Ok.text.now c.parse.result small (omega (arith, small)) (same ∙ is) c.parse.ensures.value.0 in
    let both : Err c.in-Err-parse.field-0 ≡ Ok n = sym c.in-Err-parse.is ∙ read in
    absurd (let bad : ⊥ = cc in bad)

pub returns-in-Err : goal.returns-in-Err
returns-in-Err c n small is =
    let utf8 : IsUtf8 c.args.bytes.now = subst IsUtf8 (sym is) (IsUtf8-from_ascii (decimal n) (IsAscii-decimal n (omega (arith, small)))) in
    absurd (c.in-Err.ensures.cases.0 utf8)
