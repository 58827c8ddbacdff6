-- Laws on two selectors of one compound each.
use Rattle.std.specs.Prelude.{◌≡◌, ◌⊎◌, ◌≤◌, ℕ, Bool, false, List, [], ◌∷◌, ◌++◌, length, Option}
use Rattle.css_model.specs.Cascade.Order.{Meet}
use Rattle.css_model.specs.declared.example.Example.{Example}
use Rattle.css_model.specs.declared.selector.Pseudo.{Pseudo}
use Rattle.css_model.specs.declared.selector.Simple.{Simple}
use Rattle.css_model.specs.Documents.Features.{CanSuit}
use Rattle.css_model.specs.Documents.SelectorParts.{SelectorParts}
use Rattle.shape_laws.specs.Document.Laws.{ShowsMeeting}
use Rattle.element_laws.specs.Names.{HaveNames}
use Rattle.sibling_counts.specs.Places.{ChildPasses}
use Rattle.slot_plan.specs.ValidShape.{EmptyFits}
use Rattle.single_examples.specs.Examples.{IsSingleExample, RootPasses}

-- a selector of one compound
abbrev pub single : List Simple → Option Pseudo → SelectorParts
single simples pseudo = record { chain = simples ∷ []; links = []; pseudo = pseudo }

-- The example that is given shows that they meet, in at most four lines.
abbrev pub ExamplesShowMeeting : Type 0
ExamplesShowMeeting =
    (x y : List Simple) (pseudo : Option Pseudo) (e : Example) → HaveNames x → HaveNames y → EmptyFits false (x ++ y) → IsSingleExample e (x ++ y) pseudo →
    ShowsMeeting (single x pseudo) (single y pseudo) e × (length e.doc.lines ≤ 4)

-- Where they meet, some element passes both by itself, and a child of some root passes, or a root, as far as the
-- position is asked for.
pub record Passes (simples : List Simple) : Type 0 where
  pub features : CanSuit simples
  pub empties : EmptyFits false simples
  pub position : ((before : ℕ) × (behind : ℕ) × ChildPasses simples before behind) ⊎ ((root_is_child : Bool) × RootPasses root_is_child simples)

abbrev pub MeetingPasses : Type 0
MeetingPasses = (x y : List Simple) (p q : Option Pseudo) → Meet (single x p) (single y q) → Passes (x ++ y)
