-- The laws of fitting.
use Rattle.std.specs.Prelude.{◌≡◌, ◌↔◌, ℕ, ◌≤◌, ◌<◌, ◌^◌, nat_le, Bool, List, length, false}
use Rattle.std.specs.List.{All, filter, flat_map}
use Rattle.css_model.specs.declared.selector.AttrTest.{AttrTest}
use Rattle.css_model.specs.declared.selector.Simple.{Simple}
use Rattle.css_model.specs.Documents.Document.{Element, attribute_value}
use Rattle.css_model.specs.Documents.Features.{Suits}
use Rattle.attr_values.specs.Separators.{HasUnused}
use Rattle.compound_fit.specs.Attributes.{AttributeFits, attribute_tests, tests_of}
use Rattle.compound_fit.specs.FreeNames.{free_name, is_among}
use Rattle.compound_fit.specs.Parts.{PassesFlag, PassesKind}

-- An element passes compounds exactly where its type, its flags and, for each name, its attribute do.
abbrev pub PartsApart : Type 0
PartsApart = (e : Element) (simples : List Simple) →
    Suits simples e ↔ (All (PassesKind e.kind) simples × All (PassesFlag e.flags) simples × ((name : List ℕ) → AttributeFits (attribute_value e name) (tests_of name (attribute_tests simples))))

-- the code points from U+10000 on in the values of tests, each as often as it stands there
abbrev pub wide_of : List (AttrTest × Bool) → List ℕ
wide_of tests = filter (λ c. nat_le 0x10000 c) (flat_map (λ t. t.0.value) tests)

-- Where fewer of them stand there than there are, some code point stands in no value.
abbrev pub EnoughLeft : Type 0
EnoughLeft = (tests : List (AttrTest × Bool)) → length (wide_of tests) ≤ 0xFFFFF → HasUnused tests

-- Among more names than are refused one is free.
abbrev pub SomeNameIsFree : Type 0
SomeNameIsFree = (refused : List (List ℕ)) → length refused < 2 ^ 64 → (k : ℕ) × (k ≤ length refused) × (is_among refused (free_name k) ≡ false)
