-- The first byte that is no digit, or the end.
use Rattle.std.proofs.Common.{◌<◌, length, sym, ◌∙◌, arith}
use Rattle.std.specs.Char.{is_ascii_digit}
use Rattle.std.proofs.lemmas.List.Sums.{prefix_len_is}
use Rattle.nth_positions.proofs.notation.digit_count.Goals as goal

pub returns-then-not-is_ascii_digit-clause-exact : goal.returns-then-not-is_ascii_digit-clause-exact
returns-then-not-is_ascii_digit-clause-exact c = sym (prefix_len_is is_ascii_digit c.args.text.now c.loop-count.count 0 (omega arith) c.loop-count.invariant (λ _. sym c.is_ascii_digit.ensures.value ∙ c.if-not-is_ascii_digit.true))

pub returns-clause-exact : goal.returns-clause-exact
returns-clause-exact c = sym (prefix_len_is is_ascii_digit c.args.text.now (length c.args.text.now) 0 (omega arith) (λ k l. c.loop-count.invariant k (omega arith)) (λ (h : length c.args.text.now < length c.args.text.now). absurd (omega arith)))
