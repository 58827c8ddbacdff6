use Rattle.std.proofs.Common.{List, subst}
use Rattle.std.specs.Prelude.{IfSome}
use Rattle.std.specs.List.{Contains}
use Rattle.pending_laws.specs.Candidates as pending
use Rattle.step_queue.specs.Told.{candidate_told}
use Rattle.step_queue.proofs.Keys.{is_first}
use Rattle.step_queue.proofs.queue.Queue.take_first.Goals as goal
use Rattle.plan_laws.specs.Cover.{IsSooner}

pub returns-clause-first : goal.returns-clause-first
returns-clause-first c = subst (λ (ls : List pending.Candidate). IfSome c.pop_first.result (λ k. (other : pending.Candidate) → Contains ls other → IsSooner other.priority (candidate_told k).priority → ⊥)) c.self.view_is
    (is_first c.priorities_are_ordered.ensures c.pop_first.result c.self.inside.candidates.keys c.pop_first.new.self.keys c.pop_first.ensures.removal c.pop_first.ensures.all_above)
