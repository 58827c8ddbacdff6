use Rattle.std.proofs.Common.{◌≡◌, Ok, Err, sym, ◌∙◌, arith}
use Rattle.std.proofs.lemmas.Fmt.{parse-decimal}
use Rattle.command_words.proofs.numbers.likely_number.Goals as goal

pub returns-in-Ok : goal.returns-in-Ok
returns-in-Ok c n small is =
    let read = parse-decimal 32 n c.args.word.now c.parse.result small (omega (arith, small)) is c.parse.ensures.value.0 in
    let both : Ok c.in-Ok.number ≡ Ok n = sym c.in-Ok.is ∙ read in
    cc

pub returns-in-Err : goal.returns-in-Err
returns-in-Err c n small is =
    let read = parse-decimal 32 n c.args.word.now c.parse.result small (omega (arith, small)) is c.parse.ensures.value.0 in
    let both : Err c.in-Err.field-0 ≡ Ok n = sym c.in-Err.is ∙ read in
    absurd (let bad : ⊥ = cc in bad)
