use Rattle.std.proofs.Common.{◌≡◌, ◌-◌, ℕ, sym, ap, ◌∙◌, drop, arith}
use Rattle.css_model.specs.Text.Names.{hex_value}
use Rattle.css_tokens.proofs.SaidLemmas.{six_digits, hex_value-none}
use Rattle.css_tokens.proofs.names.hex_value.Goals as goal

pub overflow_mul-value : goal.overflow_mul-value
overflow_mul-value c = omega (arith, six_digits c.digits.value c.digits.i c.digits.invariant.1 c.digits.invariant.2)

pub overflow_add-value : goal.overflow_add-value
overflow_add-value c = omega (arith, six_digits c.digits.value c.digits.i c.digits.invariant.1 c.digits.invariant.2)

pub returns-else-is_ascii_hexdigit-clause-small : goal.returns-else-is_ascii_hexdigit-clause-small
returns-else-is_ascii_hexdigit-clause-small c = six_digits c.digits.value c.digits.i c.digits.invariant.1 c.digits.invariant.2

pub returns-else-i-text-clause-small : goal.returns-else-i-text-clause-small
returns-else-i-text-clause-small c = six_digits c.digits.value c.digits.i c.digits.invariant.1 c.digits.invariant.2

pub returns-after-digits-clause-value : goal.returns-after-digits-clause-value
returns-after-digits-clause-value c =
    let value = c.digits.value in
    let rest = drop c.digits.i c.args.text.now in
    let none : 6 - c.digits.i ≡ 0 = omega arith in
    sym (hex_value-none value rest) ∙ ap (λ (n : ℕ). hex_value n value rest) (sym none) ∙ c.digits.invariant.0
