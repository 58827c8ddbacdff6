-- That the front of a text is read right.
use Rattle.std.proofs.Common.{ℕ, ◌≡◌, Bool, true, ◌==◌, List, ◌++◌, Result, Ok, Err, length}
use Rattle.css_model.specs.declared.token.TokenFlaw.{TokenFlaw}
use Rattle.css_model.specs.Text.Characters.{at_sign, first_passes, hash, less_than, slash}
use Rattle.css_model.specs.Text.TokenAt.{Shape, part_at}
use Rattle.token_grammar.specs.Longest.{Answer, IsNext}

-- what a reading of the front of a text answers, without its length
abbrev pub answer_of : Result Shape TokenFlaw → Answer
answer_of (Ok s) = Ok s.0
answer_of (Err f) = Err f

-- What is read at the front of a text is what is next in it, with its length, and nothing else is next.
pub record IsReadRight (text : List ℕ) : Type 0 where
  pub front : List ℕ
  pub rest : List ℕ
  pub joined : text ≡ front ++ rest
  pub next : IsNext front rest (answer_of (part_at text))
  pub len : (s : Shape) → part_at text ≡ Ok s → s.1 ≡ length front
  pub alone : (other more : List ℕ) (another : Answer) → text ≡ other ++ more → IsNext other more another → (other ≡ front) × (another ≡ answer_of (part_at text))

-- a text whose first byte passes this test is read right
abbrev pub AreReadRight : (ℕ → Bool) → Type 0
AreReadRight test = (text : List ℕ) → first_passes test text ≡ true → IsReadRight text

abbrev pub is_slash : ℕ → Bool
is_slash c = c == slash

abbrev pub is_hash : ℕ → Bool
is_hash c = c == hash

abbrev pub is_less_than : ℕ → Bool
is_less_than c = c == less_than

abbrev pub is_at_sign : ℕ → Bool
is_at_sign c = c == at_sign
