-- What is found where the three documents are tried.
use Rattle.std.specs.Prelude.{◌≡◌, ◌⊎◌, Bool, true, false, not, ◌&&◌, ◌||◌, List, Option, Some, None}
use Rattle.std.specs.List.{list_any}
use Rattle.css_model.specs.declared.example.Example.{Example}
use Rattle.css_model.specs.declared.selector.Pseudo.{Pseudo}
use Rattle.css_model.specs.declared.selector.Simple.{Simple}
use Rattle.css_model.specs.Documents.FeatureParts.{FeatureParts}
use Rattle.slot_plan.specs.ValidShape.{EmptyFits, is_empty_test}
use Rattle.sibling_counts.specs.Places.{NoChildPasses}
use Rattle.single_examples.specs.Examples.{IsFirst, RootPasses, with_text}

-- whether `:empty` is asked for (Selectors 3, section 6.6.5.12)
abbrev pub asks_for_none : List Simple → Bool
asks_for_none simples = list_any (λ s. not s.negated && is_empty_test s.test) simples

-- none of the three documents has an element that passes
abbrev pub NoneTried : List Simple → Type 0
NoneTried simples = (EmptyFits false simples → ⊥) ⊎ (NoChildPasses simples × (RootPasses false simples → ⊥) × (RootPasses true simples → ⊥))

-- the first of them that does, with these features; nothing exactly where none does
abbrev pub IsTried : Option Example → List Simple → FeatureParts → Option Pseudo → Type 0
IsTried None simples f pseudo = NoneTried simples
IsTried (Some e) simples f pseudo = EmptyFits false simples × IsFirst e simples (with_text f simples) pseudo
