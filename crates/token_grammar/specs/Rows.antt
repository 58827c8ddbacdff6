-- Rows of pieces, and the pieces that most kinds are made of (CSS Syntax 3, sections 3.3 and 4.2). A text is its bytes in
-- UTF-8, and the rest of it is what follows.
use Rattle.std.specs.Prelude.{ℕ, ◌≡◌, ◌<◌, true, false, List, [], ◌∷◌, ◌++◌, length}
use Rattle.std.specs.Char.{is_ascii_digit}
use Rattle.std.specs.List.{list_all}
use Rattle.css_model.specs.Text.Characters.{carriage_return, line_feed, begins, first_passes, is_newline, is_white}

-- any number of pieces of a kind, each before the others and the rest
pub data IsRowOf (IsPiece : List ℕ → List ℕ → Type 0) (rest : List ℕ) : List ℕ → Type 0 where
  nothing : IsRowOf IsPiece rest []
  more : (piece others : List ℕ) → IsPiece piece (others ++ rest) → IsRowOf IsPiece rest others → IsRowOf IsPiece rest (piece ++ others)

-- a newline: a line feed, a carriage return, a form feed, or the first two together
pub data IsNewline (text rest : List ℕ) : Type 0 where
  one : (c : ℕ) → text ≡ c ∷ [] → is_newline c ≡ true → (c ≡ carriage_return → begins line_feed rest ≡ false) → IsNewline text rest
  both : text ≡ carriage_return ∷ line_feed ∷ [] → IsNewline text rest

-- the white space in front of a rest: a space, a tab or a newline, or nothing where none is there
pub data IsTheWhite (text rest : List ℕ) : Type 0 where
  none : text ≡ [] → first_passes is_white rest ≡ false → IsTheWhite text rest
  blank : (c : ℕ) → text ≡ c ∷ [] → is_white c ≡ true → is_newline c ≡ false → IsTheWhite text rest
  newline : IsNewline text rest → IsTheWhite text rest

-- any number of white spaces
abbrev pub AreWhite : List ℕ → Type 0
AreWhite text = list_all is_white text ≡ true

-- one digit or more
pub record AreDigits (text : List ℕ) : Type 0 where
  pub some : 0 < length text
  pub each : list_all is_ascii_digit text ≡ true
