-- The words of a text: its tokens that are no white space, each with what is beside it (own; CSS Syntax 3, section 4).
use Rattle.std.specs.Prelude.{ℕ, ◌==◌, Bool, true, false, ◌||◌, if◌then◌else◌, List, [], ◌∷◌, drop}
use Rattle.css_model.specs.declared.token.Token.{Token}
use Rattle.css_model.specs.declared.token.TokenKind.{TokenKind}
use Rattle.css_model.specs.declared.token.TokenKind.TheVariants as kind
use Rattle.css_model.specs.Text.Characters.{close_curly, close_round, close_square, colon, comma, open_curly, open_round, semicolon, slash}
use Rattle.css_model.specs.Text.Lexemes.{is_sign_of, is_white_kind, opens}
use Rattle.css_model.specs.Text.Source.{text_at}
use Rattle.css_model.specs.Text.Tokens.{tokens}

-- A token that is no white space: its kind, its bytes, whether white space comes after it, and whether white space on
-- either side of it says nothing.
pub record Word : Type 0 where
  pub kind : TokenKind
  pub bytes : List ℕ
  pub white : Bool
  pub free : Bool

-- whether tokens begin with white space
abbrev pub begin_white : List Token → Bool
begin_white [] = false
begin_white (t ∷ ts) = is_white_kind t.kind

-- a token of a text before others
abbrev pub word : (text : List ℕ) → Token → List Token → Word
word text t ts = record { kind = t.kind; bytes = text_at text t.span; white = begin_white ts; free = false }

-- those of these tokens that are no white space
abbrev pub words_in : (text : List ℕ) → List Token → List Word
words_in text [] = []
words_in text (t ∷ ts) = if is_white_kind t.kind then words_in text ts else word text t ts ∷ words_in text ts

-- the words of a text, without its comments
abbrev pub words_of : (text : List ℕ) → List Word
words_of text = words_in text (tokens text false).tokens

-- ---- The head of a block

-- whether a token closes a bracket
abbrev pub is_closer : TokenKind → Bool
is_closer k = is_sign_of close_round k || is_sign_of close_square k || is_sign_of close_curly k

-- For each bracket that is open after a token, the innermost first, whether it is a `(` and no function; before the
-- token these are open.
abbrev pub rounds_after : TokenKind → List Bool → List Bool
rounds_after k rounds = if opens k then is_sign_of open_round k ∷ rounds else if is_closer k then drop 1 rounds else rounds

-- whether the innermost of these brackets is such a one
abbrev pub is_in_round : List Bool → Bool
is_in_round [] = false
is_in_round (r ∷ rounds) = r

-- a word in these brackets: white space beside a `:` directly in `(` says nothing
abbrev pub freed : List Bool → Word → Word
freed rounds w = record { kind = w.kind; bytes = w.bytes; white = w.white; free = if is_sign_of colon w.kind then is_in_round rounds else w.free }

-- the same of words, before which these brackets are open
abbrev pub head_words : List Bool → List Word → List Word
head_words rounds [] = []
head_words rounds (w ∷ ws) = freed rounds w ∷ head_words (rounds_after w.kind rounds) ws
