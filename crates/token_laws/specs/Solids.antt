-- The tokens of parts that are no white space by themselves, each with what stands behind it, and their text
-- read back.
use Rattle.std.specs.Prelude.{ℕ, ◌≡◌, ◌≤◌, ◌==◌, ◌⊎◌, ◌&&◌, ◌||◌, not, Bool, true, false, if◌then◌else◌, List, [], ◌∷◌, ◌++◌, map, take, drop, length, Option, Some, None}
use Rattle.css_model.specs.declared.token.Gap.{Gap}
use Rattle.css_model.specs.declared.token.Gap.TheVariants as gap
use Rattle.css_model.specs.declared.token.TokenKind.{TokenKind}
use Rattle.css_model.specs.declared.token.TokenKind.TheVariants as kind
use Rattle.css_model.specs.Text.Characters.{space, exclamation_mark, open_round, is_sign}
use Rattle.css_model.specs.Text.Kept.{Solid, solid, is_lone, is_open, is_white_gap, kept, value_text}
use Rattle.css_model.specs.Text.Lexemes.{is_white_kind, lexemes}
use Rattle.css_model.specs.Text.Tokens.{Part, parts, text_of, stream}
use Rattle.token_laws.specs.Alike.{begins_dashes}
use Rattle.css_tokens.specs.Lexed.{IsLexed}

-- what a part makes of the gap that it begins, where `comment` says that a comment stands there already
abbrev pub gap_by : Option TokenKind → Bool → Gap → Gap
gap_by None comment more = more
gap_by (Some k) comment more = if is_white_kind k then gap.White else if comment then gap.Comments else gap.Nothing

-- what stands at the front of parts, up to a token that is no white space
abbrev pub gap_before : Bool → List Part → Gap
gap_before comment [] = gap.Nothing
gap_before comment (p ∷ ps) = gap_by p.kind comment (gap_before true ps)

abbrev pub solid_then : Option TokenKind → List ℕ → Gap → List Solid → List Solid
solid_then None bytes behind more = more
solid_then (Some k) bytes behind more = if is_white_kind k then more else record { kind = k; bytes = bytes; gap = behind } ∷ more

abbrev pub solids : List Part → List Solid
solids [] = []
solids (p ∷ ps) = solid_then p.kind p.bytes (gap_before false ps) (solids ps)

-- An open token before white space is read back with one white space of its own.
abbrev pub closed : Solid → Solid
closed s =
    if not (is_lone s.kind) && (is_white_gap s.gap && is_open s.bytes) then record { kind = s.kind; bytes = s.bytes ++ space ∷ []; gap = s.gap } else s

-- the last token of a kept text, behind which nothing stands but the newline of a lone backslash
abbrev pub last_kept : Solid → Solid
last_kept s = record { kind = s.kind; bytes = s.bytes; gap = if is_lone s.kind then gap.White else gap.Nothing }

-- the last token of a value's text
abbrev pub last_of_value : Solid → Solid
last_of_value s = last_kept (closed s)

-- tokens as their text is read back
abbrev pub read_back : (Solid → Solid) → List Solid → List Solid
read_back last [] = []
read_back last (s ∷ []) = last s ∷ []
read_back last (s ∷ t ∷ ss) = closed s ∷ read_back last (t ∷ ss)

abbrev pub is_function : TokenKind → Bool
is_function kind.Function = true
is_function k = false

-- The last token is a function: nothing that it holds is there, and `url(` without its string is none.
abbrev pub ends_called : List Solid → Bool
ends_called [] = false
ends_called (s ∷ []) = is_function s.kind
ends_called (s ∷ t ∷ ss) = ends_called (t ∷ ss)

-- a sign other than `(`, or `!`
abbrev pub is_ender : ℕ → Bool
is_ender c = (is_sign c && not (c == open_round)) || c == exclamation_mark

-- what may stand behind: nothing, or one of these; `!` not before `--`, which a `<` would look for
abbrev pub IsBehind : List ℕ → Type 0
IsBehind [] = Unit {0}
IsBehind (c ∷ cs) = (is_ender c ≡ true) × (c ≡ exclamation_mark → begins_dashes cs ≡ false)

abbrev pub is_sign_kind : TokenKind → Bool
is_sign_kind (kind.Sign c) = true
is_sign_kind k = false

abbrev pub ends_in_sign : List Solid → Bool
ends_in_sign [] = true
ends_in_sign (s ∷ []) = is_sign_kind s.kind
ends_in_sign (s ∷ t ∷ ss) = ends_in_sign (t ∷ ss)

-- Other parts may stand behind these tokens where they begin with such a sign, and behind a sign where they begin
-- with any token.
abbrev pub MayFollow : List Solid → List Part → Type 0
MayFollow ss rest = IsBehind (text_of rest) ⊎ ((ends_in_sign ss ≡ true) × (gap_before false rest ≡ gap.Nothing))

-- There are parts that spell this text, and that are read where they stand, before nothing as before others
-- that may follow; and these are their tokens.
pub record ReadsBack (text : List ℕ) (ss : List Solid) : Type 0 where
  pub parts : List Part
  pub spells : text_of parts ≡ text
  pub lexed : (rest : List Part) → IsLexed rest → MayFollow ss rest → IsLexed (parts ++ rest)
  pub reads : (rest : List Part) → IsLexed rest → MayFollow ss rest → solids (parts ++ rest) ≡ ss ++ solids rest

-- n tokens of these parts, behind the first m
abbrev pub solids_of : List Part → ℕ → ℕ → List Solid
solids_of ps m n = take n (drop m (solids ps))

-- the kept text of tokens, and the text of a value, are read back
abbrev pub KeptReadsBack : Type 0
KeptReadsBack = (ps : List Part) (m n : ℕ) → IsLexed ps → ends_called (solids_of ps m n) ≡ false
    → ReadsBack (kept (solids_of ps m n)) (read_back last_kept (solids_of ps m n))

abbrev pub ValueReadsBack : Type 0
ValueReadsBack = (ps : List Part) (m n : ℕ) → IsLexed ps → ends_called (solids_of ps m n) ≡ false
    → ReadsBack (value_text (solids_of ps m n)) (read_back last_of_value (solids_of ps m n))

-- neither is longer than the text of the parts
abbrev pub KeptIsShort : Type 0
KeptIsShort = (ps : List Part) (m n : ℕ) → IsLexed ps
    → (length (kept (solids_of ps m n)) ≤ length (text_of ps)) × (length (value_text (solids_of ps m n)) ≤ length (text_of ps))

-- kept again, each is the same
abbrev pub KeptAgain : Type 0
KeptAgain = (ps : List Part) (m n : ℕ) → IsLexed ps
    → (kept (read_back last_kept (solids_of ps m n)) ≡ kept (solids_of ps m n)) × (kept (read_back last_of_value (solids_of ps m n)) ≡ value_text (solids_of ps m n))
    × (value_text (read_back last_of_value (solids_of ps m n)) ≡ value_text (solids_of ps m n))

-- The tokens of a source from a place on, with their bytes and gaps, are those of its parts.
abbrev pub SolidsAreLexemes : Type 0
SolidsAreLexemes = (source : List ℕ) (at : ℕ) → map (solid source) (lexemes (stream at (drop at source)).tokens) ≡ solids (parts (drop at source)).parts
