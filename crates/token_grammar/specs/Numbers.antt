-- Numbers (CSS Syntax 3, section 4.3.12).
use Rattle.std.specs.Prelude.{ℕ, ◌≡◌, ◌≤◌, ◌⊎◌, true, List, [], ◌∷◌, ◌++◌, length}
use Rattle.css_model.specs.Text.Characters.{dot, is_plus_or_minus}
use Rattle.token_grammar.specs.Rows.{AreDigits}

-- `+`, `-` or nothing
pub data IsSign (text : List ℕ) : Type 0 where
  nothing : text ≡ [] → IsSign text
  one : (c : ℕ) → text ≡ c ∷ [] → is_plus_or_minus c ≡ true → IsSign text

-- digits, with or without a fraction, or a fraction alone
pub data IsDecimal (text : List ℕ) : Type 0 where
  integer : AreDigits text → IsDecimal text
  fraction : (digits : List ℕ) → text ≡ dot ∷ digits → AreDigits digits → IsDecimal text
  both : (whole digits : List ℕ) → text ≡ whole ++ dot ∷ digits → AreDigits whole → AreDigits digits → IsDecimal text

-- `e` or `E`, a sign and digits, or nothing
pub data IsExponent (text : List ℕ) : Type 0 where
  nothing : text ≡ [] → IsExponent text
  one : (e : ℕ) (sign digits : List ℕ) → text ≡ e ∷ (sign ++ digits) → (e ≡ 101) ⊎ (e ≡ 69) → IsSign sign → AreDigits digits → IsExponent text

pub record IsNumber (text : List ℕ) : Type 0 where
  pub sign : List ℕ
  pub decimal : List ℕ
  pub exponent : List ℕ
  pub joined : text ≡ sign ++ (decimal ++ exponent)
  pub is_sign : IsSign sign
  pub is_decimal : IsDecimal decimal
  pub is_exponent : IsExponent exponent

-- no longer number is at the front of this one with what follows it
abbrev pub IsWholeNumber : List ℕ → List ℕ → Type 0
IsWholeNumber number behind = (longer rest : List ℕ) → number ++ behind ≡ longer ++ rest → IsNumber longer → length longer ≤ length number
