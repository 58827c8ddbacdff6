-- The numbers of the slots in which a selector has a compound.
use Rattle.std.proofs.Common.{Bool, List, [], ap, arith, false, inl, inr, length, refl, subst, suc, sym, true, ℕ, ◌+◌, ◌<◌, ◌∷◌, ◌≡◌, ◌≤◌, ◌⊎◌}
use Rattle.std.specs.Prelude.{Contains, if◌then◌else◌}
use Rattle.list_facts.proofs.Members.{Contains-cons_cases, Contains-here, Contains-nil, Contains-there}
use Rattle.slot_plan.specs.ValidShape.{Ascend}
use Rattle.shape_laws.proofs.Slots.SlotList.{AreUsed, IsUsed, Slot, nth_place, numbers_where, places_where}
use Rattle.shape_laws.proofs.Visits.Places.{Place}

-- the places of numbered slots
abbrev pub Numbered : (ℕ → Place) → ℕ → List Slot → Type 0
Numbered place k [] = Unit {0}
Numbered place k (s ∷ ss) = (place k ≡ s.place) × Numbered place (suc k) ss

-- one slot further
numbered_shift : (place : ℕ → Place) (n : ℕ) (ss : List Slot) → Numbered (λ k. place (suc k)) n ss → Numbered place (suc n) ss
numbered_shift place n [] h = tt
numbered_shift place n (s ∷ ss) (e, rest) = (e, numbered_shift place (suc n) ss rest)

-- the places of slots from number 1 on
pub numbered : (p : Place) (ss : List Slot) → Numbered (nth_place p ss) 1 ss
numbered p [] = tt
numbered p (s ∷ ss) = (refl, numbered_shift (nth_place p (s ∷ ss)) 1 ss (numbered s.place ss))

-- the numbers of slots
pub numbers_ascend : (one : Slot → Bool) (a k : ℕ) (ss : List Slot) → a < k → Ascend a (numbers_where one k ss)
numbers_ascend one a k [] h = tt
numbers_ascend one a k (s ∷ ss) h = by (one s) (numbers_ascend one k (suc k) ss (omega arith)) (numbers_ascend one a (suc k) ss (omega arith))
  where
    by : (b : Bool) → Ascend k (numbers_where one (suc k) ss) → Ascend a (numbers_where one (suc k) ss) → Ascend a (if b then k ∷ numbers_where one (suc k) ss else numbers_where one (suc k) ss)
    by true yes' no' = (h, yes')
    by false yes' no' = no'

-- as many numbers as places
pub numbers_length : (one : Slot → Bool) (k : ℕ) (ss : List Slot) → length (numbers_where one k ss) ≡ length (places_where one ss)
numbers_length one k [] = refl
numbers_length one k (s ∷ ss) = by (one s) (numbers_length one (suc k) ss)
  where
    by : (b : Bool) → length (numbers_where one (suc k) ss) ≡ length (places_where one ss) → length (if b then k ∷ numbers_where one (suc k) ss else numbers_where one (suc k) ss) ≡ length (if b then s.place ∷ places_where one ss else places_where one ss)
    by true ih = ap suc ih
    by false ih = ih

-- no number is beyond the slots
pub numbers_inside : (one : Slot → Bool) (n : ℕ) (ss : List Slot) (k : ℕ) → Contains (numbers_where one n ss) k → k < n + length ss
numbers_inside one n [] k h = absurd (Contains-nil k h)
numbers_inside one n (s ∷ ss) k h = by (one s) h (λ h. let ih = numbers_inside one (suc n) ss k h in omega arith)
  where
    by : (b : Bool) → Contains (if b then n ∷ numbers_where one (suc n) ss else numbers_where one (suc n) ss) k → (Contains (numbers_where one (suc n) ss) k → k < n + length (s ∷ ss)) → k < n + length (s ∷ ss)
    by true h rest = elim (Contains-cons_cases n (numbers_where one (suc n) ss) k h) [ inl e ↦ omega arith | inr more ↦ rest more ]
    by false h rest = rest h

-- a slot of a selector has its number among them
here_number : (one : Slot → Bool) (n : ℕ) (s : Slot) (ss : List Slot) → one s ≡ true → Contains (numbers_where one n (s ∷ ss)) n
here_number one n s ss e = subst (λ b. Contains (if b then n ∷ numbers_where one (suc n) ss else numbers_where one (suc n) ss) n) (sym e) (Contains-here n (numbers_where one (suc n) ss))

-- and so has a later one
later_number : (one : Slot → Bool) (n k : ℕ) (s : Slot) (ss : List Slot) → Contains (numbers_where one (suc n) ss) k → Contains (numbers_where one n (s ∷ ss)) k
later_number one n k s ss h = by (one s)
  where
    by : (b : Bool) → Contains (if b then n ∷ numbers_where one (suc n) ss else numbers_where one (suc n) ss) k
    by true = Contains-there n (numbers_where one (suc n) ss) k h
    by false = h

-- each slot is one of either selector
pub numbers_used : (n : ℕ) (ss : List Slot) (k : ℕ) → AreUsed ss → n ≤ k → k < n + length ss → Contains (numbers_where (λ s. s.in_left) n ss) k ⊎ Contains (numbers_where (λ s. s.in_right) n ss) k
numbers_used n [] k used low high = absurd (omega arith)
numbers_used n (s ∷ ss) k (this, used) low high = by (first_or n k low) this (λ h. numbers_used (suc n) ss k used h (omega arith))
  where
    first_or : (n k : ℕ) → n ≤ k → (n ≡ k) ⊎ (n < k)
    first_or n k h = grind arith

    by : (n ≡ k) ⊎ (n < k) → IsUsed s → (suc n ≤ k → Contains (numbers_where (λ s. s.in_left) (suc n) ss) k ⊎ Contains (numbers_where (λ s. s.in_right) (suc n) ss) k) →
        Contains (numbers_where (λ s. s.in_left) n (s ∷ ss)) k ⊎ Contains (numbers_where (λ s. s.in_right) n (s ∷ ss)) k
    by (inl e) (inl l) rest = inl (subst (λ (m : ℕ). Contains (numbers_where (λ s. s.in_left) n (s ∷ ss)) m) e (here_number (λ s. s.in_left) n s ss l))
    by (inl e) (inr r) rest = inr (subst (λ (m : ℕ). Contains (numbers_where (λ s. s.in_right) n (s ∷ ss)) m) e (here_number (λ s. s.in_right) n s ss r))
    by (inr less) this rest = elim (rest (omega arith)) [
      | inl h ↦ inl (later_number (λ s. s.in_left) n k s ss h)
      | inr h ↦ inr (later_number (λ s. s.in_right) n k s ss h)
    ]
