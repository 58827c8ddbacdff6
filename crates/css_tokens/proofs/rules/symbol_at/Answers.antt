use Rattle.std.proofs.Common.{ℕ, ◌≡◌, ◌<◌, sym, ap, ◌∙◌, drop, arith}
use Rattle.std.proofs.lemmas.List.{take_rest}
use Rattle.css_model.specs.Text.Units.{signed_decimal, number_len}
use Rattle.css_model.specs.Text.TokenAt.{number_shape, less_shape, at_shape}
use Rattle.css_tokens.proofs.RuleLemmas.{symbol_number, symbol_less, symbol_at_sign}
use Rattle.css_tokens.proofs.rules.symbol_at.Goals as goal

pub returns-then-decimal_len-gt0 : goal.returns-then-decimal_len-gt0
returns-then-decimal_len-gt0 c =
    let text = c.args.text.now in
    let positive : 0 < signed_decimal text = omega arith in
    let len = c.number_len-len.ensures.value in
    let rest = c.after.ensures ∙ ap (λ (n : ℕ). drop n text) len in
    c.number_shape.ensures ∙ ap (λ (n : ℕ). number_shape n c.after.result.now) len ∙ ap (number_shape (number_len text)) rest
    ∙ sym (symbol_number text c.in-len1-up.len_at_least positive)

pub returns-then-first-eq60 : goal.returns-then-first-eq60
returns-then-first-eq60 c =
    let text = c.args.text.now in
    let none : signed_decimal text ≡ 0 = omega arith in
    c.less_shape.ensures ∙ ap less_shape (take_rest text 1) ∙ sym (symbol_less text c.in-len1-up.len_at_least none c.if-first-eq60.true)

pub returns-then-first-eq64 : goal.returns-then-first-eq64
returns-then-first-eq64 c =
    let text = c.args.text.now in
    let none : signed_decimal text ≡ 0 = omega arith in
    c.at_shape.ensures ∙ ap at_shape (take_rest text 1) ∙ sym (symbol_at_sign text c.in-len1-up.len_at_least none c.if-first-eq64.true)
