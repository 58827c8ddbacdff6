-- One path through true nodes, slot by slot, and the shape that it gives (own).
use Rattle.std.specs.Prelude.{Bool, List, None, Option, Some, [], false, if◌then◌else◌, length, map, nat_lt, suc, true, zero, ℕ, ◌&&◌, ◌+◌, ◌==◌, ◌∷◌}
use Rattle.css_model.specs.Documents.SelectorParts.{SelectorParts}
use Rattle.css_model.specs.declared.selector.Combinator.{Combinator}
use Rattle.grid_laws.specs.Grid.{Lays, Nodes, goes_up_at, has_left, has_right, left_alone, right_alone, together}
use Rattle.grid_laws.specs.Solved.{numbers_asked}
use Rattle.slot_plan.specs.ShapeParts.{ShapeParts}
use Rattle.slot_plan.specs.Steps.{is_up}
use Rattle.slot_plan.specs.declared.shape.SlotStep.{SlotStep}
use Rattle.slot_plan.specs.declared.shape.SlotStep.TheVariants.{Further, NextTo, UpOne}

-- a slot behind the first one: the step into it, what it holds, and how many siblings stand before and behind it
pub record Laid : Type 0 where
  pub step : SlotStep
  pub lays : Lays
  pub before : ℕ
  pub after : ℕ

-- Which node follows that of the compounds i and j, where m and n are the last ones: the first true one of the next
-- left compound alone and the next right one alone, or else that of both.
abbrev pub next_lays : ℕ → ℕ → Nodes → ℕ → ℕ → Option Lays
next_lays m n v i j =
    if nat_lt i m && v left_alone (suc i) j then Some left_alone
    else (if nat_lt j n && v right_alone i (suc j) then Some right_alone
    else (if nat_lt i m && nat_lt j n then Some together
    else None))

-- the step into a slot, up or to a sibling, by how many siblings stand before the slot that it leaves and before this one
abbrev pub step_for : Bool → ℕ → ℕ → SlotStep
step_for true b b' = UpOne
step_for false b b' = if b == suc b' then NextTo else Further

-- the slot of a node, where b siblings stand before the slot that the step leaves
abbrev pub slot_at : List Combinator → List Combinator → (ℕ → ℕ) → (ℕ → ℕ) → (ℕ → ℕ) → (ℕ → ℕ) → Lays → ℕ → ℕ → ℕ → Laid
slot_at xl yl bx ax by ay left_alone i j b = record { step = step_for (goes_up_at xl i) b (bx i); lays = left_alone; before = bx i; after = ax i }
slot_at xl yl bx ax by ay right_alone i j b = record { step = step_for (goes_up_at yl j) b (by j); lays = right_alone; before = by j; after = ay j }
slot_at xl yl bx ax by ay together i j b = record { step = step_for (goes_up_at xl i) b (bx i); lays = together; before = bx i; after = ax i }

-- the number of a selector's last compound, where one more is laid or not
abbrev pub ahead : Bool → ℕ → ℕ
ahead true i = suc i
ahead false i = i

-- what is made of what follows, if anything does
abbrev pub laid_next : Option Lays → (Lays → List Laid) → List Laid
laid_next None make = []
laid_next (Some k) make = make k

-- at most so many slots along the true nodes behind that of the compounds i and j, before whose slot b siblings stand
abbrev pub slots_from : ℕ → List Combinator → List Combinator → Nodes → (ℕ → ℕ) → (ℕ → ℕ) → (ℕ → ℕ) → (ℕ → ℕ) → ℕ → ℕ → ℕ → List Laid
slots_from zero xl yl v bx ax by ay i j b = []
slots_from (suc n) xl yl v bx ax by ay i j b = laid_next (next_lays (length xl) (length yl) v i j) (λ k.
    let i' = ahead (has_left k) i in
    let j' = ahead (has_right k) j in
    let slot = slot_at xl yl bx ax by ay k i' j' b in
    slot ∷ slots_from n xl yl v bx ax by ay i' j' slot.before)

-- how many siblings stand before a slot where all are direct neighbours, by the number for the next slot
abbrev pub before_by : Bool → ℕ → ℕ
before_by true next = 0
before_by false next = suc next

-- and how many stand behind the next slot
abbrev pub after_by : Bool → ℕ → ℕ
after_by true a = 0
after_by false a = suc a

-- how many siblings stand before a slot with these slots behind it, where all are direct neighbours
abbrev pub row_before : List Laid → ℕ
row_before [] = 0
row_before (s ∷ ss) = before_by (is_up s.step) (row_before ss)

-- slots whose siblings are all direct neighbours, the first of them behind one that has a siblings behind it
abbrev pub numbered : ℕ → List Laid → List Laid
numbered a [] = []
numbered a (s ∷ ss) =
    let up = is_up s.step in
    record { step = step_for up 1 0; lays = s.lays; before = row_before ss; after = after_by up a } ∷ numbered (after_by up a) ss

-- the numbers of the slots in which a selector has a compound, where the first slot of the list is number k
abbrev pub laid_at : (Lays → Bool) → ℕ → List Laid → List ℕ
laid_at one k [] = []
laid_at one k (s ∷ ss) = if one s.lays then k ∷ laid_at one (suc k) ss else laid_at one (suc k) ss

-- the shape of slots behind slot 0, before which b siblings stand and behind which a
abbrev pub shape_of : ℕ → ℕ → Bool → Bool → List Laid → ShapeParts
shape_of b a root child ss = record {
  steps = map (λ s. s.step) ss;
  left = 0 ∷ laid_at has_left 1 ss;
  right = 0 ∷ laid_at has_right 1 ss;
  before = b ∷ map (λ s. s.before) ss;
  after = a ∷ map (λ s. s.after) ss;
  top_is_root = root;
  root_is_child = child;
}

-- The shape of nodes and numbers: the slots along the true nodes, with these numbers where some test looks at them, and
-- else with all siblings direct neighbours.
abbrev pub shape_by : SelectorParts → SelectorParts → Nodes → (ℕ → ℕ) → (ℕ → ℕ) → (ℕ → ℕ) → (ℕ → ℕ) → Bool → Bool → ShapeParts
shape_by x y v bx ax by ay root child =
    let slots = slots_from (length x.links + length y.links) x.links y.links v bx ax by ay 0 0 (bx 0) in
    if numbers_asked x y then shape_of (bx 0) (ax 0) root child slots
    else shape_of (row_before slots) 0 root child (numbered 0 slots)
