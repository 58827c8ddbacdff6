-- Component values (CSS Syntax 3, sections 5.4.7 to 5.4.9): brackets that match, with depth as a number.
use Rattle.std.specs.Prelude.{ℕ, suc, ◌≡◌, Bool, true, false, List, [], ◌∷◌, ◌++◌, Option, Some, None}
use Rattle.css_model.specs.declared.token.Lexeme.{Lexeme}
use Rattle.css_model.specs.declared.token.Token.{Token}
use Rattle.css_model.specs.declared.token.TokenKind.{TokenKind}
use Rattle.css_model.specs.Text.Lexemes.{closer_of, gap_of, is_sign_of, is_white_kind, opens, white_of}

-- The tokens that are no white space, each with what follows it up to the next. How deep each is, the brackets say.
pub data AreLexemes : List Token → List Lexeme → Type 0 where
  nothing : AreLexemes [] []
  white : (t : Token) (ts : List Token) (xs : List Lexeme) → is_white_kind t.kind ≡ true → AreLexemes ts xs → AreLexemes (t ∷ ts) xs
  more : (t : Token) (x : Lexeme) (ts : List Token) (xs : List Lexeme) → is_white_kind t.kind ≡ false → x.kind ≡ t.kind → x.span ≡ t.span
      → x.gap ≡ gap_of ts → x.white ≡ white_of t.span.«end» ts → AreLexemes ts xs → AreLexemes (t ∷ ts) (x ∷ xs)

-- whether a token closes the bracket around it, if there is one, whose closer this is
abbrev pub closes_around : Option ℕ → TokenKind → Bool
closes_around None k = false
closes_around (Some c) k = is_sign_of c k

-- A row of component values, so many brackets deep, inside a bracket with this closer, if any. A token that opens no
-- bracket, and does not close the one around it, is a value by itself: so is a closer of another bracket (a parse error of
-- the standard). One that opens a bracket is a value with all up to the token that closes it.
pub data AreValues : Option ℕ → ℕ → List Lexeme → Type 0 where
  nothing : (around : Option ℕ) (depth : ℕ) → AreValues around depth []
  single : (around : Option ℕ) (depth : ℕ) (x : Lexeme) (rest : List Lexeme) → opens x.kind ≡ false → closes_around around x.kind ≡ false → x.level ≡ depth
      → AreValues around depth rest → AreValues around depth (x ∷ rest)
  block : (around : Option ℕ) (depth c : ℕ) (x y : Lexeme) (inside rest : List Lexeme) → closes_around around x.kind ≡ false → closer_of x.kind ≡ Some c
      → x.level ≡ depth → AreValues (Some c) (suc depth) inside → is_sign_of c y.kind ≡ true → y.level ≡ suc depth → AreValues around depth rest
      → AreValues around depth (x ∷ (inside ++ y ∷ rest))

-- A row of values up to the end, of which the last may be a bracket that is left open. Then this is where it opens, and what
-- follows it is such a row inside it.
pub data AreOpened : Option ℕ → ℕ → Option ℕ → List Lexeme → Type 0 where
  all_closed : (around : Option ℕ) (depth : ℕ) (xs : List Lexeme) → AreValues around depth xs → AreOpened around depth None xs
  left_open : (around : Option ℕ) (depth c : ℕ) (left : Option ℕ) (x : Lexeme) (before inside : List Lexeme) → AreValues around depth before
      → closes_around around x.kind ≡ false → closer_of x.kind ≡ Some c → x.level ≡ depth → AreOpened (Some c) (suc depth) left inside
      → AreOpened around depth (Some x.span.start) (before ++ x ∷ inside)
