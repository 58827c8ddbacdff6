-- The tokens of a text: at each place the longest text that the standard takes there (CSS Syntax 3, section 4.3.1).
use Rattle.std.specs.Prelude.{ℕ, ◌≡◌, ◌+◌, ◌≤◌, Bool, true, false, List, [], ◌∷◌, ◌++◌, length, Option, Some, None, Result, Ok, Err}
use Rattle.css_model.specs.declared.token.Token.{Token}
use Rattle.css_model.specs.declared.token.TokenFault.{TokenFault}
use Rattle.css_model.specs.declared.token.TokenFlaw.{TokenFlaw}
use Rattle.css_model.specs.declared.token.TokenFlaw.TheVariants as flaw
use Rattle.css_model.specs.declared.token.TokenKind.{TokenKind}
use Rattle.css_model.specs.Text.Tokens.{byte_order_mark, fault_at}
use Rattle.token_grammar.specs.Flaws.{IsBadString, IsBadUrl, IsCut}
use Rattle.token_grammar.specs.TokenTexts.{IsCommentText, IsTokenText}

-- a token of a kind, a comment, or what is wrong
abbrev pub Answer : Type 0
Answer = Result (Option TokenKind) TokenFlaw

-- a text before a rest can be taken for this
pub data IsTaken (text rest : List ℕ) : Answer → Type 0 where
  token : (k : TokenKind) → IsTokenText rest k text → IsTaken text rest (Ok (Some k))
  comment : IsCommentText text → IsTaken text rest (Ok None)
  bad_string : IsBadString text rest → IsTaken text rest (Err flaw.BadString)
  bad_url : IsBadUrl text rest → IsTaken text rest (Err flaw.BadUrl)
  cut : IsCut text → rest ≡ [] → IsTaken text rest (Err flaw.EndInside)

-- and no longer text at its place can be taken for anything
pub record IsNext (text rest : List ℕ) (answer : Answer) : Type 0 where
  pub taken : IsTaken text rest answer
  pub longest : (other more : List ℕ) (another : Answer) → text ++ rest ≡ other ++ more → IsTaken other more another → length other ≤ length text

-- Tokens of a text at a place, where the test tells whether a comment ends there, and the fault that ends them, if any.
pub data AreTheTokens : ℕ → Bool → List ℕ → List Token → Option TokenFault → Type 0 where
  at_end : (at : ℕ) (comment : Bool) → AreTheTokens at comment [] [] None
  past_comment : (at : ℕ) (comment : Bool) (text rest : List ℕ) (ts : List Token) (fault : Option TokenFault) → IsNext text rest (Ok None)
      → AreTheTokens (at + length text) true rest ts fault → AreTheTokens at comment (text ++ rest) ts fault
  more : (at : ℕ) (comment : Bool) (text rest : List ℕ) (k : TokenKind) (ts : List Token) (fault : Option TokenFault) → IsNext text rest (Ok (Some k))
      → AreTheTokens (at + length text) false rest ts fault
      → AreTheTokens at comment (text ++ rest) (record { kind = k; span = record { start = at; «end» = at + length text }; comment_before = comment } ∷ ts) fault
  at_fault : (at : ℕ) (comment : Bool) (text rest : List ℕ) (f : TokenFlaw) → IsNext text rest (Err f) → AreTheTokens at comment (text ++ rest) [] (Some (fault_at at f))

-- the same of a source, where a whole sheet may begin with a byte order mark (section 3.2)
pub data AreTheTokensOf (source : List ℕ) (sheet : Bool) (ts : List Token) (fault : Option TokenFault) : Type 0 where
  marked : (rest : List ℕ) → sheet ≡ true → source ≡ byte_order_mark ++ rest → AreTheTokens 3 false rest ts fault → AreTheTokensOf source sheet ts fault
  unmarked : (sheet ≡ true → (rest : List ℕ) → source ≡ byte_order_mark ++ rest → ⊥) → AreTheTokens 0 false source ts fault → AreTheTokensOf source sheet ts fault
