-- Which step a candidate names, and which candidate comes next (own).
use Rattle.std.specs.Prelude.{◌≡◌, ℕ, ◌<◌, List, length, slice_index}
use Rattle.pending_laws.specs.Scopes.{IsInScope}
use Rattle.pending_laws.specs.Priorities.{named}
use Rattle.step_queue.specs.declared.candidate.Candidate.{Candidate}
use Rattle.step_queue.specs.Told.{candidate_told}
use Rattle.step_kinds.specs.StepsByKind.{step_of_kind}
use Rattle.order_laws.specs.Edits.{Edit}
use Rattle.indexed_sheet.specs.IndexedParts.{IndexedParts}
use Rattle.plan_laws.specs.Cover.{IsSooner}
use Rattle.step_laws.specs.declared.step.Step.{Step}
use Rattle.step_laws.specs.Sizes.{Saves}
use Rattle.step_laws.specs.Steps.{HasStep, IsStep}
use Rattle.indexed_sheet.specs.MarkList.{item_ids_of, order_keys_of}
use Rattle.next_step.specs.Seconds.{HasSecond, second_name}

-- A candidate names a step of the indexed sheet: the step saves as much as the candidate says, which is something, and its
-- items have the candidate's order keys.
pub record IsStepOf (source : List ℕ) (indexed : IndexedParts) (candidate : Candidate) (k : Step) : Type 0 where
  pub has : HasStep indexed.items k
  pub some : 0 < candidate.saving.0
  pub saves : (e : Edit) → IsStep indexed.items k e → Saves source indexed.items e candidate.saving.0
  pub priority : named (order_keys_of indexed.marks) candidate.saving.0 k ≡ (candidate_told candidate).priority

-- A candidate's order keys are those of a step's items, and the items are there. Of a cut the second number is the part's.
pub record Names (indexed : IndexedParts) (candidate : Candidate) (k : Step) : Type 0 where
  pub first : ℕ
  pub second : ℕ
  pub is : k ≡ step_of_kind candidate.kind first second
  pub first_there : first < length indexed.items
  pub second_there : HasSecond candidate.kind second (length indexed.items)
  pub first_named : slice_index (order_keys_of indexed.marks) first ≡ candidate.first
  pub second_named : second_name candidate.kind (order_keys_of indexed.marks) second ≡ candidate.second

-- A candidate names no step that saves as much as it says.
abbrev pub NamesNone : List ℕ → IndexedParts → Candidate → Type 0
NamesNone source indexed candidate = (k : Step) (e : Edit) (n : ℕ) → IsStep indexed.items k e → Saves source indexed.items e n → 0 < n →
    named (order_keys_of indexed.marks) n k ≡ (candidate_told candidate).priority → ⊥

-- a step of the indexed sheet is in the scope of a candidate
abbrev pub IsQueuedBeside : IndexedParts → Candidate → Step → Type 0
IsQueuedBeside indexed candidate k = IsInScope (item_ids_of indexed.marks) (candidate_told candidate).scope candidate.owner k

-- A candidate that comes later than another one: the priority of a step in the scope of that one, which is its scope, too.
pub record IsLaterPriority (source : List ℕ) (indexed : IndexedParts) (after candidate : Candidate) : Type 0 where
  pub step : Step
  pub names : IsStepOf source indexed candidate step
  pub beside : IsQueuedBeside indexed after step
  pub owner_is : candidate.owner ≡ after.owner
  pub scope_is : candidate.scope ≡ after.scope
  pub later : IsSooner (candidate_told after).priority (candidate_told candidate).priority
