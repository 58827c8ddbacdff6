-- The front is all digits.
use Rattle.std.proofs.Common.{List, ℕ, take, subst, sym, ap, ◌∙◌}
use Rattle.std.specs.Char.{is_ascii_digit}
use Rattle.std.specs.List.{AllPass}
use Rattle.nth_positions.proofs.Digits.{digits_pass}
use Rattle.nth_positions.proofs.notation.split_digits.Goals as goal

pub returns-clause-each : goal.returns-clause-each
returns-clause-each c = subst (λ (ds : List ℕ). AllPass is_ascii_digit ds) (sym (c.split_at.ensures.front ∙ ap (λ n. take n c.args.text.now) c.digit_count.ensures.exact)) (digits_pass c.args.text.now)
