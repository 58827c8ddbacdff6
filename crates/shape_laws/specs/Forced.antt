-- Compounds of two selectors that have to hold of one element (own, by Selectors 3, section 8).
use Rattle.std.specs.Prelude.{◌≡◌, ◌⊎◌, ℕ, zero, suc, ◌+◌, List, [], length, ◌++◌, Some, slice_get, get_or}
use Rattle.css_model.specs.Cascade.Order.{Meet}
use Rattle.css_model.specs.declared.selector.Combinator.{Combinator}
use Rattle.css_model.specs.declared.selector.Combinator.TheVariants.{Child, Later, Next}
use Rattle.css_model.specs.Documents.Features.{CanSuit}
use Rattle.css_model.specs.Documents.SelectorParts.{SelectorParts}

-- Compounds count from 0, from the target to the left. The i-th combinator is at the left of compound i.

-- From the element of compound i it is so many siblings to the left, and then to the parent (Selectors 3, sections 8.2
-- and 8.3).
abbrev pub ReachesParent : List Combinator → ℕ → ℕ → Type 0
ReachesParent links i zero = slice_get links i ≡ Some Child
ReachesParent links i (suc n) = ((slice_get links i ≡ Some Next) ⊎ (slice_get links i ≡ Some Later)) × ReachesParent links (suc i) n

-- If compounds i and j hold of one element, then so do k and l: of the sibling directly before it, if both selectors go
-- on with `+`; or of its parent, if both reach that over siblings alone.
pub data GoTogether (left right : List Combinator) (i j k l : ℕ) : Type 0 where
  siblings : slice_get left i ≡ Some Next → slice_get right j ≡ Some Next → k ≡ suc i → l ≡ suc j → GoTogether left right i j k l
  parents : (m n : ℕ) → ReachesParent left i m → ReachesParent right j n → k ≡ i + suc m → l ≡ j + suc n → GoTogether left right i j k l

-- If both selectors match one target, compounds i and j hold of one element, so many of these moves from the target.
abbrev pub AreOfOne : (left right : List Combinator) → (moves : ℕ) → ℕ → ℕ → Type 0
AreOfOne left right zero i j = (i ≡ 0) × (j ≡ 0)
AreOfOne left right (suc moves) k l = (i : ℕ) × (j : ℕ) × AreOfOne left right moves i j × GoTogether left right i j k l

-- a selector has one combinator between each two compounds
abbrev pub IsLinked : SelectorParts → Type 0
IsLinked x = length x.links + 1 ≡ length x.chain

-- some element that a legal document may have passes both compounds, if the selectors meet
abbrev pub ForcedCompoundsSuit : Type 0
ForcedCompoundsSuit = (x y : SelectorParts) → IsLinked x → IsLinked y → Meet x y → (moves i j : ℕ) → AreOfOne x.links y.links moves i j →
    CanSuit (get_or x.chain i [] ++ get_or y.chain j [])
