-- Slots in order: their places, the last one, and those that are reached by a step up.
use Rattle.std.proofs.Common.{Bool, List, [], ap, arith, false, get_or, inl, inr, length, map, refl, suc, true, zero, ℕ, ◌<◌, ◌∷◌, ◌≡◌, ◌≤◌, ◌⊎◌}
use Rattle.std.specs.List.{AllByRecursion}
use Rattle.std.specs.Prelude.{if◌then◌else◌}
use Rattle.slot_plan.specs.Steps.{is_parent, is_up}
use Rattle.slot_plan.specs.declared.shape.SlotStep.{SlotStep}
use Rattle.slot_plan.specs.declared.shape.SlotStep.TheVariants.{Further, NextTo, UpMore, UpOne}
use Rattle.shape_laws.proofs.Slots.Moves.{Moves, moves_step}
use Rattle.shape_laws.proofs.Slots.SlotList.{AreUsed, Slot, SlotsRise, last_place, nth_place, places_where, step_to, steps_from}
use Rattle.shape_laws.proofs.Visits.Order.{Behind, ahead_behind, behind_on}
use Rattle.shape_laws.proofs.Visits.Places.{Place}

-- one step to each slot
pub length-steps_from : (p : Place) (ss : List Slot) → length (steps_from p ss) ≡ length ss
length-steps_from p [] = refl
length-steps_from p (s ∷ ss) = ap suc (length-steps_from s.place ss)

-- the last place is that of the last slot
pub nth_last : (p : Place) (ss : List Slot) → nth_place p ss (length ss) ≡ last_place p ss
nth_last p [] = refl
nth_last p (s ∷ ss) = nth_last s.place ss

-- what is listed slot by slot
pub nth_map : (b : Place → ℕ) (p : Place) (ss : List Slot) (k : ℕ) → k ≤ length ss → get_or (b p ∷ map (λ s. b s.place) ss) k 0 ≡ b (nth_place p ss k)
nth_map b p ss zero h = refl
nth_map b p [] (suc k) h = absurd (omega arith)
nth_map b p (s ∷ ss) (suc k) h = nth_map b s.place ss k (omega arith)

-- what holds in all places
pub nth_all : (P : Place → Type 0) (p : Place) (ss : List Slot) → P p → AllByRecursion (λ s. P s.place) ss → (k : ℕ) → P (nth_place p ss k)
nth_all P p ss here all zero = here
nth_all P p [] here all (suc k) = here
nth_all P p (s ∷ ss) here all (suc k) = nth_all P s.place ss all.0 all.1 k

-- a later slot has a later place
pub rise_behind : (p : Place) (ss : List Slot) (j k : ℕ) → SlotsRise p ss → j < k → k ≤ length ss → Behind (nth_place p ss j) (nth_place p ss k)
rise_behind p ss j zero rise less inside = absurd (omega arith)
rise_behind p [] j (suc k) rise less inside = absurd (omega arith)
rise_behind p (s ∷ ss) zero (suc zero) (ahead, rise) less inside = ahead_behind p s.place ahead
rise_behind p (s ∷ ss) zero (suc (suc k)) (ahead, rise) less inside = behind_on p s.place (nth_place s.place ss (suc k)) (ahead_behind p s.place ahead) (rise_behind s.place ss zero (suc k) rise (omega arith) (omega arith))
rise_behind p (s ∷ ss) (suc j) (suc k) (ahead, rise) less inside = rise_behind s.place ss j k rise (omega arith) (omega arith)

-- a step to a place with nothing at its right leads up
up_if : (st : SlotStep) (p q : Place) → Moves st p q → q.left ≡ 0 → is_up st ≡ true
up_if NextTo p q (u, l) e = absurd (omega arith)
up_if Further p q (u, l) e = absurd (omega arith)
up_if UpOne p q move e = refl
up_if UpMore p q move e = refl

-- a last slot at which no step to the left ends is on the line
pub last_up : (p : Place) (ss : List Slot) → SlotsRise p ss → (last_place p ss).left ≡ 0 → (length (steps_from p ss) ≡ 0) ⊎ (is_parent (steps_from p ss) (length (steps_from p ss)) ≡ true)
last_up p [] rise e = inl refl
last_up p (s ∷ ss) rise e = inr (go p s ss rise e)
  where
    go : (p : Place) (s : Slot) (ss : List Slot) → SlotsRise p (s ∷ ss) → (last_place s.place ss).left ≡ 0 → is_parent (steps_from p (s ∷ ss)) (length (steps_from p (s ∷ ss))) ≡ true
    go p s [] (ahead, rise) e = up_if (step_to p s.place) p s.place (moves_step p s.place ahead) e
    go p s (t ∷ ss) (ahead, rise) e = go s.place t ss rise e

-- a step up leads to such a place, and higher
is_down : (st : SlotStep) (p q : Place) → Moves st p q → is_up st ≡ true → (q.left ≡ 0) × (p.up < q.up)
is_down NextTo p q move e = absurd (let h : false ≡ true = e in cc)
is_down Further p q move e = absurd (let h : false ≡ true = e in cc)
is_down UpOne p q (u, l) e = (l, omega arith)
is_down UpMore p q (u, l) e = (l, omega arith)

-- a slot reached by a step up stands on the line, above the target
pub parent_place : (p : Place) (ss : List Slot) (k : ℕ) → SlotsRise p ss → k < length ss → is_parent (steps_from p ss) (suc k) ≡ true → ((nth_place p ss (suc k)).left ≡ 0) × (0 < (nth_place p ss (suc k)).up)
parent_place p [] k rise h e = absurd (omega arith)
parent_place p (s ∷ ss) zero (ahead, rise) h e = let d = is_down (step_to p s.place) p s.place (moves_step p s.place ahead) e in (d.0, (let u = d.1 in omega arith))
parent_place p (s ∷ ss) (suc k) (ahead, rise) h e = parent_place s.place ss k rise (omega arith) e

-- what holds of the places of both selectors holds of all slots
pub slots_all : (P : Place → Type 0) (ss : List Slot) → AreUsed ss → AllByRecursion P (places_where (λ s. s.in_left) ss) → AllByRecursion P (places_where (λ s. s.in_right) ss) → AllByRecursion (λ s. P s.place) ss
slots_all P [] used l r = tt
slots_all P (s ∷ ss) (this, used) l r = by s.in_left s.in_right this l r (λ l r. slots_all P ss used l r)
  where
    by : (a b : Bool) → (a ≡ true) ⊎ (b ≡ true) → AllByRecursion P (if a then s.place ∷ places_where (λ s. s.in_left) ss else places_where (λ s. s.in_left) ss) → AllByRecursion P (if b then s.place ∷ places_where (λ s. s.in_right) ss else places_where (λ s. s.in_right) ss) →
        (AllByRecursion P (places_where (λ s. s.in_left) ss) → AllByRecursion P (places_where (λ s. s.in_right) ss) → AllByRecursion (λ s. P s.place) ss) → P s.place × AllByRecursion (λ s. P s.place) ss
    by true true u l r rest = (l.0, rest l.1 r.1)
    by true false u l r rest = (l.0, rest l.1 r)
    by false true u l r rest = (r.0, rest l r.1)
    by false false (inl e) l r rest = absurd (let h : false ≡ true = e in cc)
    by false false (inr e) l r rest = absurd (let h : false ≡ true = e in cc)
