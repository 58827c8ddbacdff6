use Rattle.std.proofs.Common.{List, sym, subst}
use Rattle.std.specs.List.{Contains}
use Rattle.pending_laws.specs.Candidates as pending
use Rattle.planner.proofs.Tried.{none_left}
use Rattle.planner.proofs.merging.next_step.Goals as goal
use Rattle.step_queue.specs.Told.{candidate_told}
use Rattle.list_facts.proofs.Members.{Contains-there}
use Rattle.indexed_sheet.specs.IndexedParts.{IndexedParts}
use Rattle.step_laws.specs.Leading.{IsDone}

pub try_candidate-requires-clause-first : goal.try_candidate-requires-clause-first
try_candidate-requires-clause-first g c = λ l among sooner. c.in-Some.ensures.first l
    (subst (λ (ls : List pending.Candidate). Contains ls l) (sym c.in-Some.ensures.taken) (Contains-there (candidate_told c.in-Some.candidate) c.take_first.new.self.candidates l among)) sooner

pub returns-clause-done : goal.returns-clause-done
returns-clause-done g c = subst (λ (b : IndexedParts). IsDone (g.O.Obstacles.answers c.candidates.obstacles) c.args.source.now b.items) c.candidates.invariant.indexed
    (none_left c.no_candidate_is_done.ensures (g.O.Obstacles.answers c.candidates.obstacles) c.args.source.now c.candidates.plan c.in_default.ensures.none c.candidates.invariant.state)
