use Rattle.std.proofs.Common.{sym, subst, List}
use Rattle.std.specs.List.{Contains}
use Rattle.step_queue.specs.declared.candidate.Candidate.{Candidate}
use Rattle.planner_state.proofs.reactivating.reactivate_pair.Goals as goal

pub returns-clause-active : goal.returns-clause-active
returns-clause-active c = λ l among. c.in_ok-reactivate_all.ensures.active l (subst (λ (xs : List Candidate). Contains xs l) (sym c.deref.ensures.value) (c.in_ok-candidates.ensures l among))
