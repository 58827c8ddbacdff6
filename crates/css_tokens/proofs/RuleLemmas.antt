-- The rules that the first byte does not decide.
use Rattle.std.proofs.Common.{ℕ, ◌<◌, ◌≡◌, true, false, ltb, ◌==◌, List, [], ◌∷◌, length, drop, get_or, refl, arith}
use Rattle.std.proofs.lemmas.Bool.{lt-ltb, le-ltb, eq-eqb, ne_eqb}
use Rattle.css_model.specs.Text.Characters.{less_than, at_sign}
use Rattle.css_model.specs.Text.Units.{signed_decimal, number_len}
use Rattle.css_model.specs.Text.TokenAt.{symbol_at, number_shape, less_shape, at_shape}

pub symbol_number : (text : List ℕ) → 0 < length text → 0 < signed_decimal text → symbol_at text ≡ number_shape (number_len text) (drop (number_len text) text)
symbol_number [] some number = absurd (omega arith)
symbol_number (c ∷ cs) some number = let is : ltb 0 (signed_decimal (c ∷ cs)) ≡ true = lt-ltb 0 (signed_decimal (c ∷ cs)) number in rw is refl

pub symbol_less : (text : List ℕ) → 0 < length text → signed_decimal text ≡ 0 → get_or text 0 0 ≡ less_than → symbol_at text ≡ less_shape (drop 1 text)
symbol_less [] some none first = absurd (omega arith)
symbol_less (c ∷ cs) some none first =
    let is : ltb 0 (signed_decimal (c ∷ cs)) ≡ false = le-ltb 0 (signed_decimal (c ∷ cs)) (omega arith) in
    let less : c == less_than ≡ true = eq-eqb c less_than first in
    rw (is, less) refl

pub symbol_at_sign : (text : List ℕ) → 0 < length text → signed_decimal text ≡ 0 → get_or text 0 0 ≡ at_sign → symbol_at text ≡ at_shape (drop 1 text)
symbol_at_sign [] some none first = absurd (omega arith)
symbol_at_sign (c ∷ cs) some none first =
    let is : ltb 0 (signed_decimal (c ∷ cs)) ≡ false = le-ltb 0 (signed_decimal (c ∷ cs)) (omega arith) in
    let less : c == less_than ≡ false = ne_eqb c less_than (λ e. absurd (omega arith)) in
    let at : c == at_sign ≡ true = eq-eqb c at_sign first in
    rw (is, less, at) refl
