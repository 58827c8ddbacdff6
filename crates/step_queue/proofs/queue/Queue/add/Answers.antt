use Rattle.std.proofs.Common.{◌≡◌, ◌⊎◌, ◌+◌, ◌≤◌, List, map, sym, subst}
use Rattle.std.specs.List.{Contains}
use Rattle.pending_laws.specs.Candidates as pending
use Rattle.step_queue.specs.declared.candidate.Candidate.{Candidate}
use Rattle.step_queue.specs.Told.{candidate_told}
use Rattle.step_queue.specs.Weights.{total, weight}
use Rattle.step_queue.proofs.Keys.{is_added, still_there, only_added}
use Rattle.step_queue.proofs.Weighing.{added_weighs}
use Rattle.step_queue.proofs.queue.Queue.add.Goals as goal

pub returns-clause-stay : goal.returns-clause-stay
returns-clause-stay c = λ l among. subst (λ (ks : List Candidate). Contains (map candidate_told ks) l) (sym c.in_ok-insert.ensures.keys)
    (still_there c.args.candidate c.self.inside.candidates.keys l (subst (λ (ls : List pending.Candidate). Contains ls l) (sym c.self.view_is) among))

pub returns-clause-added : goal.returns-clause-added
returns-clause-added c = subst (λ (ks : List Candidate). Contains (map candidate_told ks) (candidate_told c.args.candidate)) (sym c.in_ok-insert.ensures.keys) (is_added c.args.candidate c.self.inside.candidates.keys)

pub returns-clause-only : goal.returns-clause-only
returns-clause-only c = λ l among. subst (λ (ls : List pending.Candidate). Contains ls l ⊎ (l ≡ candidate_told c.args.candidate)) c.self.view_is
    (only_added c.args.candidate c.self.inside.candidates.keys l (subst (λ (ks : List Candidate). Contains (map candidate_told ks) l) c.in_ok-insert.ensures.keys among))

pub returns-clause-weighs : goal.returns-clause-weighs
returns-clause-weighs c = subst (λ (ls : List pending.Candidate). total (map candidate_told c.insert.new.self.keys) ≤ total ls + weight (candidate_told c.args.candidate)) c.self.view_is
    (subst (λ ks. total (map candidate_told ks) ≤ total (map candidate_told c.self.inside.candidates.keys) + weight (candidate_told c.args.candidate)) (sym c.in_ok-insert.ensures.keys) (added_weighs c.args.candidate c.self.inside.candidates.keys))
