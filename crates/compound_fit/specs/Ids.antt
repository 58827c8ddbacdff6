-- The attribute `id` (Selectors 3, section 6.5), which is tested for presence and for equality alone.
use Rattle.std.specs.Prelude.{◌≡◌, ℕ, Bool, true, false, if◌then◌else◌, List, [], MatchOption, codes}
use Rattle.std.specs.Bool.{MatchBool}
use Rattle.std.specs.List.{All}
use Rattle.css_model.specs.declared.selector.AttrTest.{AttrTest}
use Rattle.css_model.specs.declared.selector.Op.{Op}
use Rattle.css_model.specs.declared.selector.Op.TheVariants.{Present, Equal}
use Rattle.css_model.specs.declared.selector.Simple.{Simple}
use Rattle.attr_values.specs.declared.solve.Fits.{Fits}
use Rattle.attr_values.specs.declared.solve.Fits.TheVariants.{Absent, Value, Nothing}
use Rattle.attr_values.specs.Asked.{PassesAsAsked, asked, is_asked, is_equal, refused}
use Rattle.attr_values.specs.Value.{head_of}
use Rattle.compound_fit.specs.Attributes.{attribute_tests, tests_of}
use Rattle.compound_fit.specs.FreeNames.{IsFirstFree, is_among}

abbrev pub is_plain : Op → Bool
is_plain Present = true
is_plain Equal = true
is_plain _ = false

-- each test is one of presence or equality
abbrev pub ArePlain : List (AttrTest × Bool) → Type 0
ArePlain tests = All (λ t. is_plain t.0.op ≡ true) tests

-- the tests of the attribute `id` are plain (own: selectors with others are not taken apart)
abbrev pub HasPlainIds : List Simple → Type 0
HasPlainIds simples = ArePlain (tests_of (codes "id") (attribute_tests simples))

-- the id where any will do: the empty one, or where that is refused the first free name
abbrev pub IsFreeId : List ℕ → List (List ℕ) → Type 0
IsFreeId v refused = MatchBool (is_among refused []) (IsFirstFree v refused) (v ≡ [])

-- the id that is tried: the one that is asked for, or a free one
abbrev pub IsTriedId : List ℕ → List (AttrTest × Bool) → Type 0
IsTriedId v tests = MatchOption (head_of (asked is_equal tests)) (IsFreeId v (refused is_equal tests)) (λ w. v ≡ w)

-- an id that passes, and nothing in place of one that does not
abbrev pub if_passes : List ℕ → Bool → Fits
if_passes v passes = if passes then Value v else Nothing

-- how the id passes tests
abbrev pub SolvesId : Fits → List (AttrTest × Bool) → Type 0
SolvesId Absent tests = is_asked tests ≡ false
SolvesId (Value v) tests = (is_asked tests ≡ true) × PassesAsAsked tests v × IsTriedId v tests
SolvesId Nothing tests = (is_asked tests ≡ true) × ((s : List ℕ) → PassesAsAsked tests s → ⊥)
