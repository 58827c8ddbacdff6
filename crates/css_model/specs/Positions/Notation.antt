-- The An+B notation, byte by byte (Selectors 3, section 6.6.5.2, and the tokens of CSS Syntax 3). An escape is no part of it.
use Rattle.std.specs.Prelude.{◌≡◌, ℕ, ◌+◌, ◌-◌, ◌*◌, ◌<◌, Bool, true, false, ◌&&◌, ◌||◌, ◌==◌, ◌⊎◌, List, [], ◌∷◌, ◌++◌, length, map, fold, ℤ, pos, neg_ℤ, codes}
use Rattle.std.specs.Char.{is_ascii_digit, to_ascii_lowercase}
use Rattle.std.specs.List.{list_all, concat, AllByRecursion}
use Rattle.css_model.specs.declared.position.AnB.{AnB}
use Rattle.css_model.specs.Text.Characters.{is_white}

-- whether `*/` stands somewhere
abbrev pub has_close : List ℕ → Bool
has_close [] = false
has_close (c ∷ []) = false
has_close (c ∷ d ∷ cs) = ((c == 42) && (d == 47)) || has_close (d ∷ cs)

-- one white space, or one comment, which ends with the first `*/` in it
pub data IsBlank (text : List ℕ) : Type 0 where
  white_space : (c : ℕ) → text ≡ c ∷ [] → is_white c ≡ true → IsBlank text
  comment : (inside : List ℕ) → text ≡ codes "/*" ++ inside ++ codes "*/" → has_close inside ≡ false → IsBlank text

-- any number of them
pub record AreBlanks (text : List ℕ) : Type 0 where
  pub blanks : List (List ℕ)
  pub each : AllByRecursion IsBlank blanks
  pub joined : text ≡ concat blanks

-- one digit or more
pub record AreDigits (digits : List ℕ) : Type 0 where
  pub some : 0 < length digits
  pub each : list_all is_ascii_digit digits ≡ true

-- the number that they write
abbrev pub value : List ℕ → ℕ
value digits = fold (λ number digit. 10 * number + (digit - 48)) 0 digits

-- a sign before a size makes the number: `+` leaves the size, `-` negates it
abbrev pub IsSignBefore : ℕ → ℕ → ℤ → Type 0
IsSignBefore sign size number = ((sign ≡ 43) × (number ≡ pos size)) ⊎ ((sign ≡ 45) × (number ≡ neg_ℤ (pos size)))

-- the same, where no sign leaves the size too
abbrev pub IsSigned : List ℕ → ℕ → ℤ → Type 0
IsSigned [] size number = number ≡ pos size
IsSigned (sign ∷ more) size number = (more ≡ []) × IsSignBefore sign size number

-- the size of a step: what the digits before the n write, and 1 where there are none
pub data IsStepSize (digits : List ℕ) (size : ℕ) : Type 0 where
  one : digits ≡ [] → size ≡ 1 → IsStepSize digits size
  written : AreDigits digits → size ≡ value digits → IsStepSize digits size

-- what follows the n: nothing, or a sign and the digits of the offset, with blanks before either
pub data IsOffset (text : List ℕ) (offset : ℤ) : Type 0 where
  nothing : text ≡ [] → offset ≡ pos 0 → IsOffset text offset
  signed : (before between digits : List ℕ) (sign : ℕ) → text ≡ before ++ (sign ∷ (between ++ digits)) → AreBlanks before → AreBlanks between → AreDigits digits → IsSignBefore sign (value digits) offset → IsOffset text offset

-- `odd`, `even`, an integer, or a step with an offset or without one
pub data IsBody (text : List ℕ) (x : AnB) : Type 0 where
  odd : map to_ascii_lowercase text ≡ codes "odd" → x ≡ record { a = pos 2; b = pos 1 } → IsBody text x
  even : map to_ascii_lowercase text ≡ codes "even" → x ≡ record { a = pos 2; b = pos 0 } → IsBody text x
  integer : (sign digits : List ℕ) → text ≡ sign ++ digits → AreDigits digits → x.a ≡ pos 0 → IsSigned sign (value digits) x.b → IsBody text x
  step : (sign digits offset : List ℕ) (n size : ℕ) → text ≡ sign ++ (digits ++ (n ∷ offset)) → (n ≡ 110) ⊎ (n ≡ 78) → IsStepSize digits size → IsSigned sign size x.a → IsOffset offset x.b → IsBody text x

-- a text that stands for a step and an offset: one of these, between blanks
pub record IsNotation (text : List ℕ) (x : AnB) : Type 0 where
  pub before : List ℕ
  pub body : List ℕ
  pub after : List ℕ
  pub parts : text ≡ before ++ (body ++ after)
  pub blank_before : AreBlanks before
  pub is_body : IsBody body x
  pub blank_after : AreBlanks after
