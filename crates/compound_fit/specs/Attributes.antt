-- The tests of attributes in compounds, name by name (Selectors 3, sections 6.3, 6.4 and 6.5).
use Rattle.std.specs.Prelude.{◌≡◌, ℕ, Bool, true, false, not, List, [], ◌∷◌, map, Option, Some, None, codes}
use Rattle.std.specs.Cmp.Lexicographic.{slice_cmp}
use Rattle.std.specs.Ordering.{nat_cmp}
use Rattle.std.specs.List.{All, Contains, filter, list_any}
use Rattle.std.specs.List.Sorted.{IsStrictlySortedBy}
use Rattle.css_model.specs.declared.selector.AttrTest.{AttrTest}
use Rattle.css_model.specs.declared.selector.Op.TheVariants.{Equal}
use Rattle.css_model.specs.declared.selector.Simple.{Simple}
use Rattle.css_model.specs.declared.selector.Test.{Test}
use Rattle.css_model.specs.declared.selector.Test.TheVariants.{Id, Attr}
use Rattle.css_model.specs.Documents.Document.{value_among}
use Rattle.css_model.specs.Lists.{same_text}
use Rattle.attr_values.specs.declared.solve.Fits.{Fits}
use Rattle.attr_values.specs.declared.solve.Fits.TheVariants.{Value, Nothing}
use Rattle.attr_values.specs.Asked.{PassesAsAsked}

-- `#v` asks that the attribute `id` is v (section 6.5)
abbrev pub id_test : List ℕ → AttrTest
id_test v = record { name = codes "id"; op = Equal; value = v }

-- the test of an attribute that a simple selector makes, with whether it is asked to hold, before others
abbrev pub attribute_test : Test → Bool → List (AttrTest × Bool) → List (AttrTest × Bool)
attribute_test (Attr t) wanted rest = (t, wanted) ∷ rest
attribute_test (Id v) wanted rest = (id_test v, wanted) ∷ rest
attribute_test _ wanted rest = rest

-- all such tests of some simple selectors
abbrev pub attribute_tests : List Simple → List (AttrTest × Bool)
attribute_tests [] = []
attribute_tests (s ∷ simples) = attribute_test s.test (not s.negated) (attribute_tests simples)

-- those of one attribute
abbrev pub tests_of : List ℕ → List (AttrTest × Bool) → List (AttrTest × Bool)
tests_of name tests = filter (λ t. same_text t.0.name name) tests

-- the value of an attribute, or its absence, passes tests as they are asked
abbrev pub AttributeFits : Option (List ℕ) → List (AttrTest × Bool) → Type 0
AttributeFits None tests = All (λ t. t.1 ≡ false) tests
AttributeFits (Some value) tests = PassesAsAsked tests value

-- the value of a name among pairs of names and values
abbrev pub value_of : List (List ℕ × List ℕ) → List ℕ → Option (List ℕ)
value_of pairs name = value_among (map (λ a. record { name = a.0; value = a.1 }) pairs) name

-- the names of all tests, in their order
abbrev pub names_of : List (AttrTest × Bool) → List (List ℕ)
names_of tests = map (λ t. t.0.name) tests

-- the names of all tests, each once, ascending by code points
pub record AreNames (names : List (List ℕ)) (tests : List (AttrTest × Bool)) : Type 0 where
  pub ascending : IsStrictlySortedBy (slice_cmp nat_cmp) names
  pub all : All (λ t. Contains names t.0.name) tests

-- How names are answered: those that have a value, with it; and whether some name has none that fits.
abbrev pub given_one : List ℕ → Fits → List (List ℕ × List ℕ) → List (List ℕ × List ℕ)
given_one name (Value v) rest = (name, v) ∷ rest
given_one name _ rest = rest

abbrev pub given : List (List ℕ × Fits) → List (List ℕ × List ℕ)
given [] = []
given (a ∷ answers) = given_one a.0 a.1 (given answers)

abbrev pub is_nothing : Fits → Bool
is_nothing Nothing = true
is_nothing _ = false

abbrev pub has_nothing : List (List ℕ × Fits) → Bool
has_nothing answers = list_any (λ a. is_nothing a.1) answers
