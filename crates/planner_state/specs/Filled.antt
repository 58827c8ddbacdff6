-- A plan that has the items that were created (own).
use Rattle.std.specs.Prelude.{◌≡◌, ◌<◌, ℕ, Bool, List}
use Rattle.queue_laws.specs.MarkNames.{IsMarked}
use Rattle.planner_state.specs.Enqueuing.{AreEnqueued, StayBefore}
use Rattle.planner_state.specs.PlanParts.{PlanParts}
use Rattle.planner_state.specs.Weighing.{IsWeighedAt, Stay}

-- The items that were created at `next` or later are queued and weighed. If `put` says so, their rules are in the tables. What is
-- known of the other items stays.
pub record IsFilled (source : List ℕ) (put : Bool) (next : ℕ) (old new : PlanParts) : Type 0 where
  pub same : new ≡ record old { tables = new.tables; candidates = new.candidates; homes = new.homes; weights = new.weights }
  pub marked : IsMarked old.indexed
  pub enqueued : AreEnqueued put next old.indexed.marks old.indexed.items new.tables new.candidates new.homes
  pub stay : StayBefore next old.tables old.candidates old.homes new.tables new.candidates new.homes
  pub weighed : (n : ℕ) → IsWeighedAt source next old.indexed new.weights n
  pub weights : Stay (λ b. b < next) old.weights new.weights
