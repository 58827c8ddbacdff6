-- The printed form of a step and an offset: the shortest notation of the pair (own; Selectors 3, section 6.6.5.2, has the notations).
use Rattle.std.specs.Prelude.{ℕ, suc, ◌==◌, ◌&&◌, Bool, false, if◌then◌else◌, List, [], ◌∷◌, ◌++◌, ℤ, pos, negsuc, codes, decimal}
use Rattle.std.specs.Fmt.{signed_decimal}
use Rattle.css_model.specs.declared.position.AnB.{AnB}
use Rattle.css_model.specs.Text.Characters.{dash, plus}

-- `n`
abbrev pub letter_n : ℕ
letter_n = 110

-- whether a number is this one
abbrev pub is_number : ℕ → ℤ → Bool
is_number n (pos m) = m == n
is_number n (negsuc m) = false

-- the size of a step: the number 1 is left out
abbrev pub size_text : ℕ → List ℕ
size_text size = if size == 1 then [] else decimal size

abbrev pub step_text : ℤ → List ℕ
step_text (pos n) = size_text n
step_text (negsuc n) = dash ∷ size_text (suc n)

-- what follows the `n`: nothing for 0
abbrev pub offset_text : ℤ → List ℕ
offset_text (pos n) = if n == 0 then [] else plus ∷ decimal n
offset_text (negsuc n) = dash ∷ decimal (suc n)

-- the offset alone for step 0, else both
abbrev pub numbers_text : AnB → List ℕ
numbers_text x = if is_number 0 x.a then signed_decimal x.b else step_text x.a ++ letter_n ∷ offset_text x.b

-- `odd` for 2n+1, which is one byte shorter
abbrev pub anb_text : AnB → List ℕ
anb_text x = if is_number 2 x.a && is_number 1 x.b then codes "odd" else numbers_text x
