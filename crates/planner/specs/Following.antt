-- The candidates that come instead of one that is queued no more (own).
use Rattle.std.specs.Prelude.{ℕ, ◌<◌, ◌≤◌, List, length}
use Rattle.css_model.specs.declared.sheet.Item.{Item}
use Rattle.pending_laws.specs.Candidates as pending
use Rattle.queue_laws.specs.IndexedBarriers.{IsBarred}
use Rattle.queue_laws.specs.Known.{IsQueuedOrWatched}
use Rattle.step_queue.specs.declared.candidate.Candidate.{Candidate}
use Rattle.step_queue.specs.Weights.{room}
use Rattle.order_laws.specs.Edits.{Edit, edited}
use Rattle.indexed_sheet.specs.Facts.{AreTrueOf}
use Rattle.planner_state.specs.PlanParts.{PlanParts}
use Rattle.step_laws.specs.declared.step.Step.{Step}
use Rattle.step_laws.specs.Free.{Answered}
use Rattle.step_laws.specs.Leading.{Takes}
use Rattle.step_laws.specs.Sizes.{Saves}
use Rattle.step_laws.specs.Steps.{HasStep, IsStep}
use Rattle.next_step.specs.declared.next.Seen.{Seen}
use Rattle.next_step.specs.Looking.{AreLater, Covers, FoundParts}
use Rattle.plan_laws.specs.Barrier.Hindering.{Watched}

-- What follows a candidate: later priorities in its scope, and where there are more, the first of the others, such that none of
-- them is passed over but those past barriers.
pub record Follows (source : List ℕ) (p : PlanParts) (candidate : Candidate) (found : FoundParts) : Type 0 where
  pub later : AreLater source p.indexed candidate found
  pub covers : (k : Step) → Covers source p.indexed p.barriers candidate found k
  pub few : length found.candidates ≤ room

-- what was seen of an item is so
abbrev pub IsSeen : List Item → Seen → Type 0
IsSeen items s = AreTrueOf items s.number s.facts

-- The joins past barriers are queued by some priorities, or on the watch list.
abbrev pub AreBarredOff : List ℕ → PlanParts → List pending.Candidate → List Watched → Type 0
AreBarredOff source p candidates watched = (k : Step) (e : Edit) (n : ℕ) → IsStep p.indexed.items k e → Saves source p.indexed.items e n → 0 < n → IsBarred p.indexed p.barriers k → IsQueuedOrWatched p.indexed candidates watched n k

-- a step of a sheet is the next one: what it leads to is what the next step leads to
pub record IsNextFound (answers : List Answered) (source : List ℕ) (items : List Item) (k : Step) : Type 0 where
  pub has : HasStep items k
  pub takes : (e : Edit) → IsStep items k e → Takes answers source items (edited e items)
