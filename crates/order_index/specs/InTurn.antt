-- Entries of what a step reverses, looked at class by class (own).
use Rattle.std.specs.Prelude.{◌≡◌, ◌<◌, ℕ, true, List}
use Rattle.std.specs.List.{Contains}
use Rattle.css_model.specs.Cascade.Winner.{exceeds}
use Rattle.order_laws.specs.Reversed.{Reversal, sort_key}

-- each entry of a class passes
abbrev pub AllPass : (Reversal → Type 0) → List Reversal → (Reversal → Type 0) → Type 0
AllPass P entries K = (r : Reversal) → Contains entries r → K r → P r

-- this entry of a class does not pass, and each one that comes before it in the order of the list does
pub record IsFirstIn (P B : Reversal → Type 0) (entries : List Reversal) (K : Reversal → Type 0) : Type 0 where
  pub entry : Reversal
  pub among : Contains entries entry
  pub of : K entry
  pub blocks : B entry
  pub before : (s : Reversal) → Contains entries s → K s → exceeds (sort_key entry) (sort_key s) ≡ true → P s

-- each entry of the first classes passes
abbrev pub PassBelow : (Reversal → Type 0) → List Reversal → (ℕ → Reversal → Type 0) → ℕ → Type 0
PassBelow P entries C n = (i : ℕ) → i < n → AllPass P entries (C i)
