use Rattle.std.proofs.Common.{◌≡◌, ◌≤◌, ℕ, ap, arith, sym, ◌∙◌, subst, decimal}
use Rattle.std.proofs.lemmas.Bool.{false≢true}
use Rattle.command_words.proofs.Decimals.{number_is, no_number}
use Rattle.command_words.proofs.numbers.number_up_to.Goals as goal

pub returns-then-writes : goal.returns-then-writes
returns-then-writes c =
    let is = c.writes.ensures.0 c.if-writes.true in
    sym (number_is c.args.most c.args.word.now c.likely_number-number.result (omega arith) is.0 is.1)

pub returns-else-writes : goal.returns-else-writes
returns-else-writes c = sym (no_number c.args.most c.args.word.now (λ n few is.
    let number : c.likely_number-number.result ≡ n = c.likely_number-number.ensures n (omega (arith, few)) is in
    let yes = c.writes.ensures.1 (subst (λ (m : ℕ). m ≤ c.args.most) (sym number) few, is ∙ ap decimal (sym number)) in
    false≢true (sym c.if-writes.false ∙ yes)))
