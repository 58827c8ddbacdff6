-- What a token of a selector is, by its kind and its bytes.
use Rattle.std.specs.Prelude.{ℕ, suc, ◌&&◌, ◌||◌, Bool, if◌then◌else◌, List, [], ◌∷◌, ◌++◌, codes, is_some, Option, Some, None, ℤ, pos, negsuc}
use Rattle.css_model.specs.declared.position.AnB.{AnB}
use Rattle.css_model.specs.declared.token.Gap.{Gap}
use Rattle.css_model.specs.declared.token.TokenKind.{TokenKind}
use Rattle.css_model.specs.Positions.Printed.{anb_text}
use Rattle.css_model.specs.Lists.{less_one}
use Rattle.css_model.specs.Selectors.Terms.{combinator_of, counted_gap, op_of}
use Rattle.css_model.specs.Selectors.Tokens.{is_function, is_word, name_in}
use Rattle.css_model.specs.Text.Characters.{close_round, close_square, open_square, plus}
use Rattle.css_model.specs.Text.Kept.{Solid, gap_text}
use Rattle.css_model.specs.Text.Lexemes.{is_ident, is_sign_of}
use Rattle.css_model.specs.Text.Names.{unescaped}

-- `nth-child(` or `nth-last-child(`
abbrev pub is_position : TokenKind → List ℕ → Bool
is_position k bytes = is_function k && (is_word (codes "nth-child") (unescaped (name_in k bytes)) || is_word (codes "nth-last-child") (unescaped (name_in k bytes)))

-- `first-child` or `last-child`
abbrev pub is_end : TokenKind → List ℕ → Bool
is_end k bytes = is_ident k && (is_word (codes "first-child") (unescaped (name_in k bytes)) || is_word (codes "last-child") (unescaped (name_in k bytes)))

-- how many brackets are open behind a token
abbrev pub depth_after : TokenKind → ℕ → ℕ
depth_after k depth =
    if is_function k || is_sign_of open_square k then suc depth
    else if is_sign_of close_square k || is_sign_of close_round k then less_one depth
    else depth

abbrev pub is_combinator : TokenKind → Bool
is_combinator k = is_some (combinator_of k)

abbrev pub begins_operator : TokenKind → Bool
begins_operator k = is_some (op_of k)

-- a token and what counts of the gap behind it, with so many brackets open
abbrev pub word_text : Solid → ℕ → Option TokenKind → List ℕ
word_text s depth next = s.bytes ++ gap_text s.bytes (counted_gap depth s.kind s.gap next)

-- the shortest notation of an argument, and `)`
abbrev pub argument_text : Option AnB → List ℕ
argument_text None = []
argument_text (Some x) = anb_text x ++ close_round ∷ []

-- the sign before a size that has none of its own
abbrev pub plus_before : ℤ → List ℕ
plus_before (pos n) = plus ∷ []
plus_before (negsuc n) = []

-- a function of a position with its argument, and such a gap behind it
abbrev pub called_text : Solid → Option AnB → Gap → List ℕ
called_text s argument g = s.bytes ++ argument_text argument ++ gap_text (close_round ∷ []) g
