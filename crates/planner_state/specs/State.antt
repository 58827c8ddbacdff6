-- What always holds of a plan.
use Rattle.std.specs.Prelude.{ℕ, ◌+◌, List}
use Rattle.css_model.specs.Sheets.Limits.{max_bytes}
use Rattle.pending_laws.specs.Candidates.{Candidate}
use Rattle.queue_laws.specs.Beside.{AreHomes}
use Rattle.queue_laws.specs.IndexedBarriers.{AreBarriers}
use Rattle.queue_laws.specs.Known.{IsKnown}
use Rattle.queue_laws.specs.MarkNames.{IsMarked}
use Rattle.step_queue.specs.RuleWeights.{AreWeighed}
use Rattle.indexed_sheet.specs.MarkList.{item_ids_of, order_keys_of}
use Rattle.plan_laws.specs.Plannable.{IsPlannable}
use Rattle.rule_tables.specs.Tables.{Cover, order_keyed}
use Rattle.step_laws.specs.Free.{Answered}
use Rattle.plan_laws.specs.Barrier.Hindering.{Watched}
use Rattle.planner_state.specs.PlanParts.{PlanParts}

-- an indexed sheet whose sheet can be planned, with what goes with it
pub record IsIndexed (source : List ℕ) (p : PlanParts) : Type 0 where
  pub plannable : IsPlannable source p.indexed.items
  pub marked : IsMarked p.indexed
  pub covered : Cover p.tables (order_keyed p.indexed.items (order_keys_of p.indexed.marks))
  pub homes : AreHomes p.indexed.marks p.homes
  pub weighed : AreWeighed source p.indexed.items (item_ids_of p.indexed.marks) p.weights

-- Each step of the sheet that saves is queued by one of these priorities, or on the watch list with what blocks it. There may be barriers.
pub record IsQueuedBy (answers : List Answered) (source : List ℕ) (p : PlanParts) (candidates : List Candidate) : Type 0 where
  pub indexed : IsIndexed source p
  pub watched : List Watched
  pub known : IsKnown answers source p.indexed candidates watched p.entries
  pub barriers : AreBarriers answers p.indexed p.entries (max_bytes + 1) p.candidates p.barriers

-- the same by the priorities of the plan
abbrev pub IsState : List Answered → List ℕ → PlanParts → Type 0
IsState answers source p = IsQueuedBy answers source p p.candidates
