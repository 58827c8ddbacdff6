-- The type of an element that compounds ask for (Selectors 3, sections 6.1 and 6.2).
use Rattle.std.specs.Prelude.{◌≡◌, ℕ, Bool, true, not, if◌then◌else◌, List, [], ◌∷◌, Option, Some, None, MatchOption}
use Rattle.std.specs.List.{All, list_all}
use Rattle.css_model.specs.declared.selector.Simple.{Simple}
use Rattle.css_model.specs.declared.selector.Test.{Test}
use Rattle.css_model.specs.declared.selector.Test.TheVariants.{Kind}
use Rattle.css_model.specs.Lists.{same_text}
use Rattle.attr_values.specs.Value.{head_of}
use Rattle.compound_fit.specs.FreeNames.{IsFirstFree}
use Rattle.compound_fit.specs.Parts.{PassesKind, is_of_kind}

-- a type that a test names, before others
abbrev pub named_kind : Test → List (List ℕ) → List (List ℕ)
named_kind (Kind name) rest = name ∷ rest
named_kind _ rest = rest

-- the types that are asked for, and those that are refused
abbrev pub asked_kinds : List Simple → List (List ℕ)
asked_kinds [] = []
asked_kinds (s ∷ simples) = if s.negated then asked_kinds simples else named_kind s.test (asked_kinds simples)

abbrev pub refused_kinds : List Simple → List (List ℕ)
refused_kinds [] = []
refused_kinds (s ∷ simples) = if s.negated then named_kind s.test (refused_kinds simples) else refused_kinds simples

-- the type that is tried: the first one that is asked for, or the first free name
abbrev pub IsTriedKind : List ℕ → List Simple → Type 0
IsTriedKind kind simples = MatchOption (head_of (asked_kinds simples)) (IsFirstFree kind (refused_kinds simples)) (λ name. kind ≡ name)

-- the type that passes, or none does
abbrev pub SolvesKind : Option (List ℕ) → List Simple → Type 0
SolvesKind (Some kind) simples = All (PassesKind kind) simples × IsTriedKind kind simples
SolvesKind None simples = (kind : List ℕ) → All (PassesKind kind) simples → ⊥

-- whether a type passes, as a test that computes
abbrev pub kind_holds : List ℕ → Test → Bool
kind_holds kind (Kind name) = same_text kind name
kind_holds kind _ = true

abbrev pub passes_kind : List ℕ → Simple → Bool
passes_kind kind s = if is_of_kind s.test then (if s.negated then not (kind_holds kind s.test) else kind_holds kind s.test) else true

abbrev pub passes_kinds : List ℕ → List Simple → Bool
passes_kinds kind simples = list_all (passes_kind kind) simples
