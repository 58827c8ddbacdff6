-- The text of tokens that are printed as they stand: their bytes, and between them what stood there, white
-- space as one space and comments as one empty comment, so that they are read back as the same tokens (own;
-- CSS Syntax 3, section 10, asks of a serialisation that it reads back).
use Rattle.std.specs.Prelude.{ℕ, zero, suc, ◌==◌, ◌&&◌, ◌||◌, Bool, true, false, if◌then◌else◌, List, [], ◌∷◌, ◌++◌, codes}
use Rattle.std.specs.Char.{is_ascii_hexdigit}
use Rattle.css_model.specs.declared.token.Gap.{Gap}
use Rattle.css_model.specs.declared.token.Gap.TheVariants as gap
use Rattle.css_model.specs.declared.token.Lexeme.{Lexeme}
use Rattle.css_model.specs.declared.token.TokenKind.{TokenKind}
use Rattle.css_model.specs.declared.token.TokenKind.TheVariants as kind
use Rattle.css_model.specs.Text.Characters.{backslash, line_feed, space}
use Rattle.css_model.specs.Text.Source.{text_at}
use Rattle.css_model.specs.Lists.{less_one}
use Rattle.css_model.specs.Text.Units.{escape_after}

-- a token that is no white space by itself: its kind, its bytes, and what stands behind it
pub record Solid : Type 0 where
  pub kind : TokenKind
  pub bytes : List ℕ
  pub gap : Gap

abbrev pub solid : List ℕ → Lexeme → Solid
solid source x = record { kind = x.kind; bytes = text_at source x.span; gap = x.gap }

-- at most n hex digits and nothing else
abbrev pub is_open_hex : ℕ → List ℕ → Bool
is_open_hex n [] = true
is_open_hex zero (c ∷ cs) = false
is_open_hex (suc n) (c ∷ cs) = is_ascii_hexdigit c && is_open_hex n cs

-- What stands behind a backslash is all of an escape to which a white space would belong: one to six hex digits
-- (CSS Syntax 3, section 4.3.7).
abbrev pub is_open_escape : List ℕ → Bool
is_open_escape [] = false
is_open_escape (c ∷ cs) = is_ascii_hexdigit c && is_open_hex 5 cs

-- A text ends in such an escape, where its next `left` bytes belong to the escape at hand.
abbrev pub is_open_from : ℕ → List ℕ → Bool
is_open_from left [] = false
is_open_from (suc left) (c ∷ cs) = is_open_from left cs
is_open_from zero (c ∷ cs) =
    if c == backslash then (is_open_escape cs || is_open_from (less_one (escape_after cs)) cs) else is_open_from 0 cs

-- The token ends in an escape of hex digits without a white space of its own, so that a white space
-- behind it would be taken for that one.
abbrev pub is_open : List ℕ → Bool
is_open bytes = is_open_from 0 bytes

-- a backslash that begins no escape, since a newline follows it
abbrev pub is_lone : TokenKind → Bool
is_lone (kind.Delim c) = c == backslash
is_lone _ = false

-- what stands for what is behind a token of these bytes
abbrev pub gap_text : List ℕ → Gap → List ℕ
gap_text bytes gap.Nothing = []
gap_text bytes gap.Comments = codes "/**/"
gap_text bytes gap.White = if is_open bytes then space ∷ space ∷ [] else space ∷ []

-- what stands between a token and the next one: nothing but its newline behind a lone backslash
abbrev pub between : Solid → List ℕ
between s = if is_lone s.kind then line_feed ∷ [] else gap_text s.bytes s.gap

-- what stands behind the last token
abbrev pub behind_last : Solid → List ℕ
behind_last s = if is_lone s.kind then line_feed ∷ [] else []

-- their text, where this stands behind the last one
abbrev pub spelled : (Solid → List ℕ) → List Solid → List ℕ
spelled last [] = []
spelled last (s ∷ []) = s.bytes ++ last s
spelled last (s ∷ t ∷ ss) = s.bytes ++ between s ++ spelled last (t ∷ ss)

-- the text of tokens that are kept
abbrev pub kept : List Solid → List ℕ
kept ss = spelled behind_last ss

abbrev pub is_white_gap : Gap → Bool
is_white_gap gap.White = true
is_white_gap gap.Nothing = false
is_white_gap gap.Comments = false

-- what stands behind the last token of a value: one white space where it would belong to that token
abbrev pub behind_value : Solid → List ℕ
behind_value s =
    if is_lone s.kind then line_feed ∷ []
    else if is_white_gap s.gap && is_open s.bytes then space ∷ []
    else []

-- the text of a value
abbrev pub value_text : List Solid → List ℕ
value_text ss = spelled behind_value ss
