-- Names that no test refuses: `x`, `x1`, `x2` and so on (own).
use Rattle.std.specs.Prelude.{◌≡◌, ◌==◌, if◌then◌else◌, ℕ, ◌<◌, Bool, true, false, List, ◌++◌, codes, decimal}
use Rattle.std.specs.List.{list_any}
use Rattle.css_model.specs.Lists.{same_text}

-- the name of a number
abbrev pub free_name : ℕ → List ℕ
free_name number = if number == 0 then codes "x" else codes "x" ++ decimal number

-- whether a text is among others
abbrev pub is_among : List (List ℕ) → List ℕ → Bool
is_among texts v = list_any (λ r. same_text r v) texts

-- v is the first of these names that is not refused
pub record IsFirstFree (v : List ℕ) (refused : List (List ℕ)) : Type 0 where
  pub number : ℕ
  pub is : v ≡ free_name number
  pub free : is_among refused v ≡ false
  pub least : (k : ℕ) → k < number → is_among refused (free_name k) ≡ true
