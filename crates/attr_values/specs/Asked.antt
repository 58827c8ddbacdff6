-- Tests of one attribute's value, each with whether it is asked to hold (Selectors 3, sections 6.3.1 and
-- 6.3.2; that a test can be asked not to hold is section 6.6.7).
use Rattle.std.specs.Prelude.{Bool, true, false, not, ◌&&◌, if◌then◌else◌, ℕ, List, [], ◌∷◌}
use Rattle.std.specs.Bool.{MatchBool}
use Rattle.std.specs.List.{All, list_all, list_any}
use Rattle.css_model.specs.declared.selector.AttrTest.{AttrTest}
use Rattle.css_model.specs.declared.selector.Op.{Op}
use Rattle.css_model.specs.declared.selector.Op.TheVariants.{Present, Equal, Word, Dash, Prefix, Suffix, Part}
use Rattle.css_model.specs.Documents.Attribute.{Passes, passes}

-- a value passes one test as it is asked
abbrev pub PassesOne : List ℕ → AttrTest × Bool → Type 0
PassesOne value t = MatchBool t.1 (Passes t.0.op t.0.value value) (Passes t.0.op t.0.value value → ⊥)

-- a value passes all tests as they are asked
abbrev pub PassesAsAsked : List (AttrTest × Bool) → List ℕ → Type 0
PassesAsAsked tests value = All (PassesOne value) tests

-- the same as tests that compute
abbrev pub passes_one : List ℕ → AttrTest × Bool → Bool
passes_one value t = if t.1 then passes t.0.op t.0.value value else not (passes t.0.op t.0.value value)

abbrev pub passes_as_asked : List (AttrTest × Bool) → List ℕ → Bool
passes_as_asked tests value = list_all (passes_one value) tests

-- whether some test is asked to hold
abbrev pub is_asked : List (AttrTest × Bool) → Bool
is_asked tests = list_any (λ t. t.1) tests

-- whether an operator is the one that the name says
abbrev pub is_present : Op → Bool
is_present Present = true
is_present _ = false

abbrev pub is_equal : Op → Bool
is_equal Equal = true
is_equal _ = false

abbrev pub is_word : Op → Bool
is_word Word = true
is_word _ = false

abbrev pub is_dash : Op → Bool
is_dash Dash = true
is_dash _ = false

abbrev pub is_prefix : Op → Bool
is_prefix Prefix = true
is_prefix _ = false

abbrev pub is_suffix : Op → Bool
is_suffix Suffix = true
is_suffix _ = false

abbrev pub is_part : Op → Bool
is_part Part = true
is_part _ = false

-- whether the second operator is the first one
abbrev pub is_op : Op → Op → Bool
is_op Present = is_present
is_op Equal = is_equal
is_op Word = is_word
is_op Dash = is_dash
is_op Prefix = is_prefix
is_op Suffix = is_suffix
is_op Part = is_part

abbrev pub is_word_or_present : Op → Bool
is_word_or_present Word = true
is_word_or_present Present = true
is_word_or_present _ = false

-- the values of the tests of an operator that are asked to hold, in their order
abbrev pub asked : (Op → Bool) → List (AttrTest × Bool) → List (List ℕ)
asked is [] = []
asked is (t ∷ tests) = if t.1 && is t.0.op then t.0.value ∷ asked is tests else asked is tests

-- the values of those that are asked not to hold
abbrev pub refused : (Op → Bool) → List (AttrTest × Bool) → List (List ℕ)
refused is [] = []
refused is (t ∷ tests) = if not t.1 && is t.0.op then t.0.value ∷ refused is tests else refused is tests

-- whether there is one of these values
abbrev pub some_of : List (List ℕ) → Bool
some_of [] = false
some_of (v ∷ vs) = true
