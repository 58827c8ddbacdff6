-- The first of the priorities after another one, while steps are looked at (own).
use Rattle.std.specs.Prelude.{◌≡◌, ◌⊎◌, ℕ, ◌<◌, List, Option, Some, slice_get}
use Rattle.std.specs.List.{Contains}
use Rattle.pending_laws.specs.Priorities.{named}
use Rattle.queue_laws.specs.IndexedBarriers.{IsBarred}
use Rattle.step_queue.specs.declared.candidate.Candidate.{Candidate}
use Rattle.step_queue.specs.Told.{candidate_told}
use Rattle.step_queue.specs.BarrierParts.{BarrierParts}
use Rattle.order_laws.specs.Edits.{Edit}
use Rattle.indexed_sheet.specs.IndexedParts.{IndexedParts}
use Rattle.indexed_sheet.specs.declared.marks.Mark.{Mark}
use Rattle.plan_laws.specs.Cover.{Priority, IsSooner}
use Rattle.step_laws.specs.declared.step.Step.{Step}
use Rattle.step_laws.specs.Sizes.{Saves}
use Rattle.step_laws.specs.Steps.{IsStep, first_item, last_item}
use Rattle.next_step.specs.Named.{IsLaterPriority, IsQueuedBeside}
use Rattle.indexed_sheet.specs.MarkList.{order_keys_of}
use Rattle.plan_laws.specs.Barrier.Renumbering.{IsOfTwo}

-- some candidates that were found, and where there are more, one that none of the others comes before
pub record FoundParts : Type 0 where
  pub candidates : List Candidate
  pub others : Option Candidate

abbrev pub IsAmong : FoundParts → Candidate → Type 0
IsAmong found l = Contains found.candidates l ⊎ (found.others ≡ Some l)

-- a candidate was found that a priority does not come before
abbrev pub ReachesLast : Option Candidate → Priority → Type 0
ReachesLast last t = (l : Candidate) × (last ≡ Some l) × (IsSooner t (candidate_told l).priority → ⊥)

-- a candidate with this priority was found, or the priority does not come before those of the others
abbrev pub Reaches : FoundParts → Priority → Type 0
Reaches found t = ((l : Candidate) × Contains found.candidates l × ((candidate_told l).priority ≡ t)) ⊎ ReachesLast found.others t

-- what was reached is reached still
abbrev pub KeepsLast : Option Candidate → Option Candidate → Type 0
KeepsLast old new = (t : Priority) → ReachesLast old t → ReachesLast new t

abbrev pub Keeps : FoundParts → FoundParts → Type 0
Keeps old new = (t : Priority) → Reaches old t → Reaches new t

-- a step is looked for: it is in the scope of a candidate, and goes past no barrier
abbrev pub IsLookedFor : IndexedParts → BarrierParts → Candidate → Step → Type 0
IsLookedFor indexed barriers after k = IsQueuedBeside indexed after k × (IsBarred indexed barriers k → ⊥)

-- A step, if it is one of the indexed sheet that is looked for and saves something, has a priority that is reached, or does not
-- come later than this candidate's.
abbrev pub Covers : List ℕ → IndexedParts → BarrierParts → Candidate → FoundParts → Step → Type 0
Covers source indexed barriers after found k = (e : Edit) (n : ℕ) → IsStep indexed.items k e → Saves source indexed.items e n → 0 < n → IsLookedFor indexed barriers after k →
    IsSooner (candidate_told after).priority (named (order_keys_of indexed.marks) n k) → Reaches found (named (order_keys_of indexed.marks) n k)

-- each candidate that was found comes later than this one
abbrev pub AreLater : List ℕ → IndexedParts → Candidate → FoundParts → Type 0
AreLater source indexed after found = (l : Candidate) → IsAmong found l → IsLaterPriority source indexed after l

-- A step of two items: the one of this number, and another one with this order key.
pub record IsWith (indexed : IndexedParts) (number order_key : ℕ) (k : Step) : Type 0 where
  pub other : ℕ
  pub mark : Mark
  pub own : Mark
  pub mark_at : slice_get indexed.marks other ≡ Some mark
  pub own_at : slice_get indexed.marks number ≡ Some own
  pub order_key_is : mark.order_key ≡ order_key
  pub of_two : IsOfTwo k
  pub items_are : ((first_item k ≡ other) × (last_item k ≡ number)) ⊎ ((first_item k ≡ number) × (last_item k ≡ other))
