-- The tokens of a style sheet that are no white space, each with what stands behind it and how many
-- brackets are open where it begins (CSS Syntax 3, section 5.4: a bracket and what it holds are one
-- component value).
use Rattle.std.specs.Prelude.{ℕ, ◌==◌, ◌&&◌, Bool, true, false, if◌then◌else◌, List, [], ◌∷◌, drop, length, Option, Some, None, is_some}
use Rattle.css_model.specs.declared.sheet.Piece.{Piece}
use Rattle.css_model.specs.declared.token.Bracket.{Bracket}
use Rattle.css_model.specs.declared.token.Gap.{Gap}
use Rattle.css_model.specs.declared.token.Gap.TheVariants as gap
use Rattle.css_model.specs.declared.token.Lexeme.{Lexeme}
use Rattle.css_model.specs.declared.token.Token.{Token}
use Rattle.css_model.specs.declared.token.TokenKind.{TokenKind}
use Rattle.css_model.specs.declared.token.TokenKind.TheVariants as kind
use Rattle.css_model.specs.Text.Characters.{open_round, close_round, open_square, close_square, open_curly, close_curly}

-- white space
abbrev pub is_white_kind : TokenKind → Bool
is_white_kind kind.White = true
is_white_kind _ = false

-- this sign
abbrev pub is_sign_of : ℕ → TokenKind → Bool
is_sign_of b (kind.Sign c) = c == b
is_sign_of b _ = false

-- a name that is no function
abbrev pub is_ident : TokenKind → Bool
is_ident kind.Ident = true
is_ident _ = false

-- this one character
abbrev pub is_delim_of : ℕ → TokenKind → Bool
is_delim_of c (kind.Delim d) = d == c
is_delim_of c _ = false

-- the sign that closes what this sign opens, if it opens a bracket
abbrev pub closer_of_sign : ℕ → Option ℕ
closer_of_sign c =
    if c == open_round then Some close_round
    else if c == open_square then Some close_square
    else if c == open_curly then Some close_curly
    else None

-- the same of a token: a function opens a bracket too
abbrev pub closer_of : TokenKind → Option ℕ
closer_of kind.Function = Some close_round
closer_of (kind.Sign c) = closer_of_sign c
closer_of _ = None

-- whether a token opens a bracket
abbrev pub opens : TokenKind → Bool
opens k = is_some (closer_of k)

-- whether a token closes the innermost of these open brackets, which its own kind alone does
abbrev pub closes : TokenKind → List Bracket → Bool
closes k [] = false
closes k (b ∷ brackets) = is_sign_of b.closer k

abbrev pub opened : ℕ → Option ℕ → List Bracket → List Bracket
opened at None brackets = brackets
opened at (Some closer) brackets = record { closer = closer; at = at } ∷ brackets

-- the open brackets behind a token, the innermost first
abbrev pub after : Token → List Bracket → List Bracket
after t brackets = if closes t.kind brackets then drop 1 brackets else opened t.span.start (closer_of t.kind) brackets

-- the open brackets behind tokens
abbrev pub after_all : List Bracket → List Token → List Bracket
after_all brackets [] = brackets
after_all brackets (t ∷ ts) = after_all (after t brackets) ts

-- what stands before these tokens
abbrev pub gap_of : List Token → Gap
gap_of [] = gap.Nothing
gap_of (t ∷ ts) = if is_white_kind t.kind then gap.White else if t.comment_before then gap.Comments else gap.Nothing

-- the white space at the front of these tokens, or the empty piece at this place
abbrev pub white_of : ℕ → List Token → Piece
white_of at [] = record { start = at; «end» = at }
white_of at (t ∷ ts) = if is_white_kind t.kind then t.span else record { start = at; «end» = at }

-- a token before others, inside so many brackets
abbrev pub lexeme : ℕ → Token → List Token → Lexeme
lexeme level t ts = record { kind = t.kind; span = t.span; gap = gap_of ts; white = white_of t.span.«end» ts; level = level }

-- the tokens that are no white space, inside these open brackets
abbrev pub lexemes_in : List Bracket → List Token → List Lexeme
lexemes_in brackets [] = []
lexemes_in brackets (t ∷ ts) =
    if is_white_kind t.kind then lexemes_in brackets ts
    else lexeme (length brackets) t ts ∷ lexemes_in (after t brackets) ts

abbrev pub lexemes : List Token → List Lexeme
lexemes ts = lexemes_in [] ts

-- this sign, with so many brackets open before it
abbrev pub is_sign_at : ℕ → ℕ → Lexeme → Bool
is_sign_at b level x = is_sign_of b x.kind && x.level == level

-- from the first to the last of these
abbrev pub end_of : Lexeme → List Lexeme → ℕ
end_of x [] = x.span.«end»
end_of x (y ∷ ys) = end_of y ys

abbrev pub piece_of : List Lexeme → Piece
piece_of [] = record { start = 0; «end» = 0 }
piece_of (x ∷ xs) = record { start = x.span.start; «end» = end_of x xs }
