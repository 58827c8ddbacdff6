-- What keeps the pieces of a value apart: a code point that no test names, and between words a white space
-- (own: Selectors 3 says which values pass, and not how one is found).
use Rattle.std.specs.Prelude.{◌≡◌, ◌≢◌, ℕ, ◌<◌, ◌≤◌, ◌+◌, ◌-◌, Bool, true, false, not, ◌&&◌, ◌==◌, List, [], ◌∷◌, unwrap_or, find, slice_index_or}
use Rattle.std.specs.List.{All, list_all, list_any}
use Rattle.std.specs.Char.{IsScalar}
use Rattle.css_model.specs.declared.selector.AttrTest.{AttrTest}
use Rattle.attr_values.specs.Asked.{asked, refused, some_of, is_equal, is_word, is_part}

-- whether a code point stands in a text
abbrev pub holds : ℕ → List ℕ → Bool
holds c text = list_any (λ d. d == c) text

-- whether it stands in the value of some test
abbrev pub is_used : ℕ → List (AttrTest × Bool) → Bool
is_used c tests = list_any (λ t. holds c t.0.value) tests

-- f stands in the value of no test
abbrev pub IsUnused : ℕ → List (AttrTest × Bool) → Type 0
IsUnused f tests = All (λ t. All (λ c. c ≢ f) t.0.value) tests

-- the first code point that may keep pieces apart: `a`
abbrev pub first_separator : ℕ
first_separator = 0x61

-- some code point from `a` on stands in the value of no test
abbrev pub HasUnused : List (AttrTest × Bool) → Type 0
HasUnused tests = (g : ℕ) × IsScalar g × (first_separator ≤ g) × IsUnused g tests

-- the least of these code points
pub record IsFirstUnused (f : ℕ) (tests : List (AttrTest × Bool)) : Type 0 where
  pub scalar : IsScalar f
  pub from_a : first_separator ≤ f
  pub unused : IsUnused f tests
  pub least : (g : ℕ) → IsScalar g → first_separator ≤ g → IsUnused g tests → f ≤ g

-- Marks for the code points from `a` on: those that stand in the value of some test are marked, and no mark
-- stands behind the last one.
abbrev pub AreMarks : List Bool → List (AttrTest × Bool) → Type 0
AreMarks marks tests = (k : ℕ) → slice_index_or marks k false ≡ is_used (first_separator + k) tests

-- each code point from `a` on below this number is marked
abbrev pub AllMarkedBelow : ℕ → List Bool → Type 0
AllMarkedBelow n marks = (g : ℕ) → IsScalar g → first_separator ≤ g → g < n → slice_index_or marks (g - first_separator) false ≡ true

-- the first code point from `a` on that is not marked
pub record IsFirstUnmarked (f : ℕ) (marks : List Bool) : Type 0 where
  pub scalar : IsScalar f
  pub from_a : first_separator ≤ f
  pub unmarked : slice_index_or marks (f - first_separator) false ≡ false
  pub least : AllMarkedBelow f marks

-- the white space of Selectors 3, section 4, in the order in which it is tried
abbrev pub white_spaces : List ℕ
white_spaces = 0x20 ∷ 0x09 ∷ 0x0A ∷ 0x0C ∷ 0x0D ∷ []

-- whether a code point stands in the value of a Part that is asked not to hold
abbrev pub is_taken : ℕ → List (AttrTest × Bool) → Bool
is_taken c tests = list_any (holds c) (refused is_part tests)

-- No white space is left to stand beside a word: a Word is asked to hold, no Equal is, and each white
-- space stands in a Part that is asked not to hold.
abbrev pub spaces_taken : List (AttrTest × Bool) → Bool
spaces_taken tests =
    some_of (asked is_word tests) && not (some_of (asked is_equal tests)) && list_all (λ c. is_taken c tests) white_spaces

-- the first white space that is not taken; a space where each is
abbrev pub free_space : List (AttrTest × Bool) → ℕ
free_space tests = unwrap_or (find (λ c. not (is_taken c tests)) white_spaces) 0x20

-- w stands in the value of no Part that is asked not to hold
abbrev pub IsFreeSpace : ℕ → List (AttrTest × Bool) → Type 0
IsFreeSpace w tests = All (λ v. All (λ c. c ≢ w) v) (refused is_part tests)
