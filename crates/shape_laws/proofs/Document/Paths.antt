-- The paths of the slots in the document of a shape.
use Rattle.std.specs.Prelude.{Bool, List, [], false, suc, true, zero, ℕ, ◌+◌, ◌-◌, ◌≡◌, ◌∷◌}
use Rattle.slot_plan.specs.Steps.{IsUp, is_up}
use Rattle.slot_plan.specs.declared.shape.SlotStep.{SlotStep}
use Rattle.slot_plan.specs.declared.shape.SlotStep.TheVariants.{Further, NextTo, UpMore, UpOne}

-- the path of the element that stands i places to the right of a slot, and then of one below it by this path
abbrev pub path_from : Bool → List SlotStep → ℕ → List ℕ → ℕ → List ℕ → List ℕ
path_from true [] b bs i path = path
path_from false [] b bs i path = (b + i) ∷ path
path_from root (s ∷ ss) b [] i path = path
path_from root (NextTo ∷ ss) b (b' ∷ bs) i path = path_from root ss b' bs ((b - b') + i) path
path_from root (Further ∷ ss) b (b' ∷ bs) i path = path_from root ss b' bs ((b - b') + i) path
path_from root (UpOne ∷ ss) b (b' ∷ bs) i path = path_from root ss b' bs 0 ((b + i) ∷ path)
path_from root (UpMore ∷ ss) b (b' ∷ bs) i path = path_from root ss b' bs 0 (0 ∷ (b + i) ∷ path)

-- the path of slot k
abbrev pub slot_path : Bool → List SlotStep → ℕ → List ℕ → ℕ → List ℕ
slot_path root ss b bs zero = path_from root ss b bs 0 []
slot_path root [] b bs (suc k) = path_from root [] b bs 0 []
slot_path root (s ∷ ss) b [] (suc k) = path_from root (s ∷ ss) b [] 0 []
slot_path root (s ∷ ss) b (b' ∷ bs) (suc k) = slot_path root ss b' bs k

-- behind steps to the left there is a step up, or the document has a root of its own
abbrev pub InRow : Bool → List SlotStep → Type 0
InRow root [] = root ≡ false
InRow root (NextTo ∷ ss) = InRow root ss
InRow root (Further ∷ ss) = InRow root ss
InRow root (UpOne ∷ ss) = Unit {0}
InRow root (UpMore ∷ ss) = Unit {0}

-- each slot but that of the root stands in a row
abbrev pub AllInRow : Bool → List SlotStep → Type 0
AllInRow root [] = Unit {0}
AllInRow root (s ∷ ss) = InRow root (s ∷ ss) × AllInRow root ss

-- The last slot is that of the root: it is on the line, with no siblings behind it. Behind slot 0, which may be the
-- last one, stand a siblings, and i says how far to its right an element is looked for.
abbrev pub Ends : List SlotStep → List ℕ → (i a : ℕ) → Type 0
Ends [] aa i a = (i ≡ 0) × (a ≡ 0)
Ends (s ∷ ss) [] i a = ⊥
Ends (s ∷ []) (a' ∷ aa) i a = IsUp s × (a' ≡ 0)
Ends (s ∷ t ∷ ss) (a' ∷ aa) i a = Ends (t ∷ ss) aa 0 0

-- whether a slot is a parent, where p says so of slot 0
abbrev pub parent_at : Bool → List SlotStep → ℕ → Bool
parent_at p ss zero = p
parent_at p [] (suc k) = false
parent_at p (s ∷ ss) (suc k) = parent_at (is_up s) ss k
