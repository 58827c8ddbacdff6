use Rattle.std.proofs.Common.{◌≡◌, sym, subst, List}
use Rattle.std.specs.List.{Contains}
use Rattle.step_queue.specs.WatchLists.{candidates_under}
use Rattle.step_queue.specs.declared.candidate.Candidate.{Candidate}
use Rattle.planner_state.specs.Reactivating as spec
use Rattle.planner_state.proofs.Results.{ok_on}
use Rattle.planner_state.proofs.reactivating.candidates_of.Goals as goal

pub returns : goal.returns
returns c = ok_on c.under.result (λ candidates. candidates.items ≡ candidates_under c.args.selector c.args.decl c.args.watched.now) (λ candidates. spec.HasCandidatesUnder c.args.watched.now candidates.items c.args.selector c.args.decl)
    (λ candidates is l among. subst (λ (xs : List Candidate). Contains xs l) (sym is) (c.entries_are_found.ensures c.args.watched.now c.args.selector c.args.decl l among)) c.under.ensures
