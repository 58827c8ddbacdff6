-- What `fit` asks of compounds, and a test that is enough for it.
use Rattle.std.specs.Prelude.{ℕ, ◌+◌, nat_le, Bool, true, not, ◌&&◌, ◌||◌, List, [], ◌∷◌, length, codes}
use Rattle.std.specs.List.{list_all}
use Rattle.css_model.specs.declared.selector.Simple.{Simple}
use Rattle.css_model.specs.declared.selector.Test.{Test}
use Rattle.css_model.specs.declared.selector.Test.TheVariants.{Id, Attr}
use Rattle.css_model.specs.Lists.{same_text}
use Rattle.attr_values.specs.Separators.{HasUnused}
use Rattle.compound_fit.specs.Attributes.{attribute_tests, tests_of}
use Rattle.compound_fit.specs.Ids.{HasPlainIds, is_plain}

-- the id is tested for presence and equality alone, and each attribute has an unused code point
pub record IsFittable (simples : List Simple) : Type 0 where
  pub ids : HasPlainIds simples
  pub unused : (name : List ℕ) → HasUnused (tests_of name (attribute_tests simples))

-- how many code points stand in the values of the tests of attributes
abbrev pub value_size : Test → ℕ
value_size (Attr t) = length t.value
value_size (Id v) = length v
value_size _ = 0

abbrev pub values_size : List Simple → ℕ
values_size [] = 0
values_size (s ∷ simples) = value_size s.test + values_size simples

-- how many there may be: fewer than there are code points from U+10000 on
abbrev pub most_values : ℕ
most_values = 0xFFFFF

-- whether a test of the attribute `id` is one of presence or equality; any other test is fine
abbrev pub is_plain_id : Test → Bool
is_plain_id (Attr t) = not (same_text t.name (codes "id")) || is_plain t.op
is_plain_id _ = true

abbrev pub has_plain_tests : List Simple → Bool
has_plain_tests simples = list_all (λ s. is_plain_id s.test) simples

-- both together
abbrev pub is_small : List Simple → Bool
is_small simples = has_plain_tests simples && nat_le (values_size simples) most_values
