-- The value that is tried for tests of one attribute (own: Selectors 3 says which values pass, and not how
-- one is found). In all of these, f and w are the code points that keep its pieces apart.
use Rattle.std.specs.Prelude.{ℕ, Bool, true, false, not, if◌then◌else◌, nat_le, List, [], ◌∷◌, ◌++◌, length, Option, Some, None}
use Rattle.std.specs.List.{filter, list_all, list_any}
use Rattle.css_model.specs.declared.selector.AttrTest.{AttrTest}
use Rattle.css_model.specs.declared.selector.Op.{Op}
use Rattle.css_model.specs.declared.selector.Op.TheVariants.{Dash, Prefix}
use Rattle.css_model.specs.Lists.{same_text}
use Rattle.attr_values.specs.Asked.{passes_as_asked, asked, is_equal, is_word, is_dash, is_suffix, is_part, is_word_or_present}

-- the longest text, of equally long ones the first; empty if there is none
abbrev pub longer : List ℕ → List ℕ → List ℕ
longer x y = if nat_le (length y) (length x) then x else y

abbrev pub longest : List (List ℕ) → List ℕ
longest [] = []
longest (x ∷ xs) = longer x (longest xs)

-- a text, with `-` behind it or without
abbrev pub start_text : List ℕ → Bool → List ℕ
start_text v true = v ++ 0x2D ∷ []
start_text v false = v

-- what a value has to begin with: the value of each Prefix that is asked to hold, and that of each Dash
-- with `-` behind it
abbrev pub start_of : Op → List ℕ → List (List ℕ) → List (List ℕ)
start_of Prefix v rest = v ∷ rest
start_of Dash v rest = start_text v true ∷ rest
start_of _ v rest = rest

abbrev pub starts : List (AttrTest × Bool) → List (List ℕ)
starts [] = []
starts (t ∷ tests) = if t.1 then start_of t.0.op t.0.value (starts tests) else starts tests

-- each text once, where it stands first
abbrev pub once : List (List ℕ) → List (List ℕ)
once [] = []
once (x ∷ xs) = x ∷ filter (λ y. not (same_text y x)) (once xs)

-- texts with a separator behind each of them, and what follows
abbrev pub followed : ℕ → List (List ℕ) → List ℕ → List ℕ
followed c [] rest = rest
followed c (x ∷ xs) rest = x ++ c ∷ followed c xs rest

-- words with white space before, between and behind them, and what follows; nothing where there is no word
abbrev pub words_then : ℕ → ℕ → List (List ℕ) → List ℕ → List ℕ
words_then f w [] rest = rest
words_then f w (x ∷ xs) rest = w ∷ followed w (x ∷ xs) (f ∷ rest)

-- The longest start, each Part, each Word once, and the longest Suffix, of those that are asked to hold,
-- with separators between them.
abbrev pub built : ℕ → ℕ → List (AttrTest × Bool) → List ℕ
built f w tests =
    longest (starts tests) ++ f ∷ followed f (asked is_part tests) (words_then f w (once (asked is_word tests)) (longest (asked is_suffix tests)))

-- words with one space between each two
abbrev pub spaced : List (List ℕ) → List ℕ
spaced [] = []
spaced (x ∷ []) = x
spaced (x ∷ y ∷ xs) = x ++ 0x20 ∷ spaced (y ∷ xs)

-- the first of these values that passes, or another one
abbrev pub first_passing : List (AttrTest × Bool) → List (List ℕ) → List ℕ → List ℕ
first_passing tests [] other = other
first_passing tests (v ∷ vs) other = if passes_as_asked tests v then v else first_passing tests vs other

-- Where each test is one of a word or of presence, the words that are asked for; else the value of the first
-- Dash that passes, or what is built.
abbrev pub without_equal : ℕ → ℕ → List (AttrTest × Bool) → List ℕ
without_equal f w tests =
    if list_all (λ t. is_word_or_present t.0.op) tests then spaced (once (asked is_word tests))
    else first_passing tests (asked is_dash tests) (built f w tests)

-- the first of these values, or another one
abbrev pub first_or : List (List ℕ) → List ℕ → List ℕ
first_or [] other = other
first_or (v ∷ vs) other = v

-- the value that is tried: that of the first Equal that is asked to hold, if there is one
abbrev pub candidate : ℕ → ℕ → List (AttrTest × Bool) → List ℕ
candidate f w tests = first_or (asked is_equal tests) (without_equal f w tests)

-- The rest of this file says how the functions put these values together.

-- the first of these values, if there is one
abbrev pub head_of : List (List ℕ) → Option (List ℕ)
head_of [] = None
head_of (v ∷ vs) = Some v

-- one more text, unless it is among them
abbrev pub kept_with : List (List ℕ) → List ℕ → List (List ℕ)
kept_with kept x = if list_any (λ y. same_text y x) kept then kept else kept ++ x ∷ []

-- more texts, one after the other
abbrev pub kept_of : List (List ℕ) → List (List ℕ) → List (List ℕ)
kept_of kept [] = kept
kept_of kept (x ∷ xs) = kept_of (kept_with kept x) xs

-- words, and a space before each
abbrev pub more_words : List (List ℕ) → List ℕ
more_words [] = []
more_words (x ∷ xs) = 0x20 ∷ x ++ more_words xs
