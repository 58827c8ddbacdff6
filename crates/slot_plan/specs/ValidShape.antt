-- Shapes of two selectors that fit both of them (own).
use Rattle.std.specs.Prelude.{◌≡◌, ◌⊎◌, ℕ, ◌<◌, ◌≤◌, ◌==◌, Bool, true, false, ◌&&◌, if◌then◌else◌, List, [], ◌∷◌, ◌++◌, length, slice_index, Option, Some, None, Contains, codes}
use Rattle.std.specs.List.{All, filter_map}
use Rattle.css_model.specs.declared.selector.Combinator.{Combinator}
use Rattle.css_model.specs.declared.selector.Op.TheVariants.{Equal}
use Rattle.css_model.specs.declared.selector.Simple.{Simple}
use Rattle.css_model.specs.declared.selector.Test.{Test}
use Rattle.css_model.specs.declared.selector.Test.TheVariants.{Id, Attr, Empty}
use Rattle.css_model.specs.Documents.Document.{if_not_empty}
use Rattle.css_model.specs.Documents.Features.{CanSuit}
use Rattle.css_model.specs.Documents.SelectorParts.{SelectorParts}
use Rattle.css_model.specs.Lists.{same_text}
use Rattle.slot_plan.specs.declared.shape.SlotStep.{SlotStep}
use Rattle.slot_plan.specs.Counts.{CountsFit}
use Rattle.slot_plan.specs.Positions.{PositionFits}
use Rattle.slot_plan.specs.ShapeParts.{ShapeParts}
use Rattle.slot_plan.specs.Steps.{LinksFit, is_parent}

-- each number is greater than the one before, and the first than p
abbrev pub Ascend : ℕ → List ℕ → Type 0
Ascend p [] = Unit {0}
Ascend p (q ∷ slots) = (p < q) × Ascend q slots

-- The slots of a selector's compounds: one for each, ascending from slot 0, with steps between them as the
-- combinators ask.
abbrev pub SlotsOf : List (List Simple) → List Combinator → List SlotStep → List ℕ → Type 0
SlotsOf chain links steps [] = ⊥
SlotsOf chain links steps (p ∷ slots) = (p ≡ 0) × Ascend p slots × (length (p ∷ slots) ≡ length chain) × LinksFit steps links p slots

-- the simple selectors of the compound in slot k, if there is one
abbrev pub simples_at : List (List Simple) → List ℕ → ℕ → List Simple
simples_at [] slots k = []
simples_at (compound ∷ chain) [] k = []
simples_at (compound ∷ chain) (p ∷ slots) k = if p == k then compound else simples_at chain slots k

-- those of the one or two compounds in slot k
abbrev pub simples_in : SelectorParts → SelectorParts → ShapeParts → ℕ → List Simple
simples_in x y shape k = simples_at x.chain shape.left k ++ simples_at y.chain shape.right k

abbrev pub is_empty_test : Test → Bool
is_empty_test Empty = true
is_empty_test _ = false

-- `:empty` is asked neither of a parent nor beside its negation (Selectors 3, section 6.6.5.12)
abbrev pub EmptyFits : (is_parent : Bool) → List Simple → Type 0
EmptyFits parent simples =
    (s : Simple) → Contains simples s → is_empty_test s.test ≡ true → s.negated ≡ false →
    (parent ≡ false) × ((t : Simple) → Contains simples t → is_empty_test t.test ≡ true → t.negated ≡ false)

-- the id that a simple selector asks for, by `#` or by `=`, if it is not empty (Selectors 3, section 6.5)
abbrev pub asked_id : Simple → Option (List ℕ)
asked_id s = if s.negated then None else elim s.test [
  | Id value ↦ if_not_empty (Some value)
  | Attr test ↦ (if same_text test.name (codes "id") then (elim test.op [ Equal ↦ if_not_empty (Some test.value) | _ ↦ None ]) else None)
  | _ ↦ None
]

-- whether slot k is that of the root
abbrev pub is_root_slot : ShapeParts → ℕ → Bool
is_root_slot shape k = shape.top_is_root && (k == length shape.steps)

-- the last slot can be that of the root: it is slot 0 or a parent, and has no siblings
pub record RootFits (shape : ShapeParts) : Type 0 where
  pub on_line : (length shape.steps ≡ 0) ⊎ (is_parent shape.steps (length shape.steps) ≡ true)
  pub before : slice_index shape.before (length shape.steps) ≡ 0
  pub after : slice_index shape.after (length shape.steps) ≡ 0

-- A shape fits two selectors x and y.
--     left, right         the slots of the compounds of x, and of those of y
--     used, inside        each slot is one of these, and these are slots of the shape
--     counts              the numbers of siblings agree along the steps
--     root                where the last slot is that of the root, it can be
--     positions           in each slot the tests of positions hold
--     empties             in each slot `:empty` can be as it is asked
--     features            for each slot some element passes what is asked of it alone
--     ids                 no two slots are asked for the same id
--     pseudo              both selectors have the same pseudo-element, or none
pub record ValidShape (x y : SelectorParts) (shape : ShapeParts) : Type 0 where
  pub left : SlotsOf x.chain x.links shape.steps shape.left
  pub right : SlotsOf y.chain y.links shape.steps shape.right
  pub used : (k : ℕ) → k ≤ length shape.steps → Contains shape.left k ⊎ Contains shape.right k
  pub inside : (k : ℕ) → Contains shape.left k ⊎ Contains shape.right k → k ≤ length shape.steps
  pub counts : CountsFit shape.steps shape.before shape.after
  pub root : shape.top_is_root ≡ true → RootFits shape
  pub positions : (k : ℕ) → k ≤ length shape.steps →
      All (PositionFits (is_root_slot shape k) shape.root_is_child (slice_index shape.before k) (slice_index shape.after k)) (simples_in x y shape k)
  pub empties : (k : ℕ) → k ≤ length shape.steps → EmptyFits (is_parent shape.steps k) (simples_in x y shape k)
  pub features : (k : ℕ) → k ≤ length shape.steps → CanSuit (simples_in x y shape k)
  pub ids : (j k : ℕ) (id : List ℕ) → j < k → k ≤ length shape.steps →
      Contains (filter_map asked_id (simples_in x y shape j)) id → Contains (filter_map asked_id (simples_in x y shape k)) id → ⊥
  pub pseudo : x.pseudo ≡ y.pseudo
