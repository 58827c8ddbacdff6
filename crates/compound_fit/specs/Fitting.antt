-- What is answered for compounds that one element is to pass.
use Rattle.std.specs.Prelude.{◌≡◌, ℕ, ◌<◌, ◌^◌, Bool, true, false, List, [], map, Option, Some, None, Result, Ok, Err, codes}
use Rattle.std.specs.Bool.{MatchBool}
use Rattle.std.specs.Cmp.Lexicographic.{slice_cmp}
use Rattle.std.specs.Ordering.{nat_cmp}
use Rattle.std.specs.List.Sorted.{IsStrictlySortedBy}
use Rattle.css_model.specs.declared.selector.AttrTest.{AttrTest}
use Rattle.css_model.specs.declared.selector.Flag.{Flag}
use Rattle.css_model.specs.declared.selector.Simple.{Simple}
use Rattle.css_model.specs.Documents.Document.{IsLegalElement}
use Rattle.css_model.specs.Documents.FeatureParts.{FeatureParts}
use Rattle.css_model.specs.Documents.Features.{CanSuit, Suits, element_of, flags_of}
use Rattle.css_model.specs.Lists.{same_text}
use Rattle.attr_values.specs.declared.solve.Fits.{Fits}
use Rattle.attr_values.specs.declared.solve.Fits.TheVariants.{Absent, Value}
use Rattle.attr_values.specs.Separators.{spaces_taken}
use Rattle.attr_values.specs.Solved.{Solves}
use Rattle.compound_fit.specs.declared.compound.FitError.{FitError}
use Rattle.compound_fit.specs.declared.compound.FitError.TheVariants.{SpacesTaken, NoMemory}
use Rattle.compound_fit.specs.Attributes.{attribute_tests, tests_of, value_of}
use Rattle.compound_fit.specs.Flags.{is_flag_asked}
use Rattle.compound_fit.specs.Ids.{SolvesId}
use Rattle.compound_fit.specs.Kinds.{IsTriedKind}

-- the simple selectors of a compound that may be missing
abbrev pub simples_of : Option (List Simple) → List Simple
simples_of None = []
simples_of (Some simples) = simples

-- how an attribute passes its tests: `id` by rules of its own, any other while a white space is left
abbrev pub SolvesName : List ℕ → Fits → List (AttrTest × Bool) → Type 0
SolvesName name fits tests = MatchBool (same_text name (codes "id")) (SolvesId fits tests) ((spaces_taken tests ≡ false) × Solves fits tests)

-- the answer that an attribute's value or absence is
abbrev pub as_answer : Option (List ℕ) → Fits
as_answer None = Absent
as_answer (Some v) = Value v

-- the attributes are those that the tests ask for, name by name, ascending
pub record AreSolved (pairs : List (List ℕ × List ℕ)) (tests : List (AttrTest × Bool)) : Type 0 where
  pub each : (name : List ℕ) → SolvesName name (as_answer (value_of pairs name)) (tests_of name tests)
  pub ascending : IsStrictlySortedBy (slice_cmp nat_cmp) (map (λ p. p.0) pairs)

-- no white space is left beside a word of an attribute other than `id`, or one is left for each
abbrev pub SpacesAreTaken : List (AttrTest × Bool) → Type 0
SpacesAreTaken tests = (name : List ℕ) × (same_text name (codes "id") ≡ false) × (spaces_taken (tests_of name tests) ≡ true)

abbrev pub SpacesAreLeft : List (AttrTest × Bool) → Type 0
SpacesAreLeft tests = (name : List ℕ) → same_text name (codes "id") ≡ false → spaces_taken (tests_of name tests) ≡ false

-- The features that are given: of a legal element that passes, with the type, the attributes and the flags
-- that are asked for and no others, and without text.
pub record AreFeatures (f : FeatureParts) (simples : List Simple) : Type 0 where
  pub suits : Suits simples (element_of f)
  pub legal : IsLegalElement (element_of f)
  pub kind : IsTriedKind f.kind simples
  pub attributes : AreSolved f.attrs (attribute_tests simples)
  pub flags : (flag : Flag) → flags_of f.flags flag ≡ is_flag_asked flag simples
  pub few : f.flags < 2 ^ 9
  pub text : f.text ≡ false

-- features, or none where no legal element passes
abbrev pub IsAnswer : Option FeatureParts → List Simple → Type 0
IsAnswer (Some f) simples = AreFeatures f simples
IsAnswer None simples = CanSuit simples → ⊥

-- the white spaces come first
abbrev pub IsFit : Result (Option FeatureParts) FitError → List Simple → Type 0
IsFit (Ok found) simples = SpacesAreLeft (attribute_tests simples) × IsAnswer found simples
IsFit (Err SpacesTaken) simples = SpacesAreTaken (attribute_tests simples)
IsFit (Err NoMemory) simples = Unit {0}
