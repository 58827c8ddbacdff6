use Rattle.std.proofs.Common.{refl, sym, subst}
use Rattle.std.specs.List.{Contains}
use Rattle.planner_state.specs.PlanParts.{PlanParts}
use Rattle.planner_state.specs.State.{IsState}
use Rattle.planner_state.proofs.TakenDown.{taken_out}
use Rattle.planner_state.proofs.plan.Plan.take_first.Goals as goal

pub returns-clause-first : goal.returns-clause-first
returns-clause-first c = λ other among sooner. c.in_ok-candidate.ensures.first other (subst (λ (p : PlanParts). Contains p.candidates other) (sym c.self.view_is) among) sooner

pub returns-clause-queued : goal.returns-clause-queued
returns-clause-queued c =
    let old : PlanParts = record { indexed = c.self.inside.indexed; tables = c.self.inside.tables; candidates = c.self.inside.queue; entries = c.self.inside.watched; homes = c.self.inside.homes.items; barriers = c.self.inside.barriers; weights = c.self.inside.weights } in
    let new : PlanParts = record { indexed = c.self.inside.indexed; tables = c.self.inside.tables; candidates = c.take_first.new.self; entries = c.self.inside.watched; homes = c.self.inside.homes.items; barriers = c.take_down_of.new.barriers; weights = c.self.inside.weights } in
    λ answers source s. taken_out answers source old new c.in_ok-candidate.candidate refl c.in_ok-candidate.ensures.taken c.take_down_of.ensures (subst (λ (p : PlanParts). IsState answers source p) (sym c.self.view_is) s)
