-- What stands in front of a text.
use Rattle.std.specs.Prelude.{◌≡◌, ◌≢◌, ◌+◌, ◌<◌, ◌≤◌, ◌^◌, ℕ, List, [], ◌∷◌, ◌++◌, length, slice_index, codes, decimal, IsTrue}
use Rattle.cnf.specs.declared.lit.Lit.{Lit}
use Rattle.cnf.specs.Lits.{is_below}
use Rattle.rup_check.specs.Text.{lit_text}

-- the place of a byte in a text is the first one
pub record IsFirst (text : List ℕ) (byte place : ℕ) : Type 0 where
  pub inside : place < length text
  pub is_byte : slice_index text place ≡ byte
  pub none_before : (k : ℕ) → k < place → slice_index text k ≢ byte

-- the digits are those of a number
abbrev pub NoDigits : List ℕ → Type 0
NoDigits digits = (n : ℕ) → n < 2 ^ 32 → digits ≡ decimal n → ⊥

-- no number up to one stands in front, before a byte
abbrev pub NoNumber : ℕ → ℕ → List ℕ → Type 0
NoNumber end most text = (n : ℕ) (rest : List ℕ) → n ≤ most → text ≡ decimal n ++ (end ∷ rest) → ⊥

-- no number of one of so many variables stands in front, before a space
abbrev pub NoVariable : ℕ → List ℕ → Type 0
NoVariable vars text = (v : ℕ) (rest : List ℕ) → v < vars → text ≡ decimal (v + 1) ++ (codes " " ++ rest) → ⊥

-- no literal of so many variables stands in front, before a space
abbrev pub NoLiteral : ℕ → List ℕ → Type 0
NoLiteral vars text = (l : Lit) (rest : List ℕ) → IsTrue (is_below vars l) → text ≡ lit_text l ++ (codes " " ++ rest) → ⊥

-- the literals of a line, each with its space
abbrev pub lits_text : List Lit → List ℕ
lits_text [] = []
lits_text (l ∷ ls) = lit_text l ++ (codes " " ++ lits_text ls)
