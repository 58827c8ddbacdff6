-- What a candidate of the code says.
use Rattle.pending_laws.specs.Candidates as pending
use Rattle.pending_laws.specs.Scopes as scopes
use Rattle.step_queue.specs.declared.candidate.Candidate.{Candidate}
use Rattle.step_queue.specs.declared.candidate.Scope.{Scope}
use Rattle.step_queue.specs.declared.candidate.Scope.TheVariants.{Alone, Owned, Ups, Downs}
use Rattle.step_kinds.specs.StepsByKind.{step_of_kind}
use Rattle.plan_laws.specs.Barrier.Hindering.{priority_of}

-- the steps that a candidate stands for beside its own
abbrev pub scope_told : Scope → scopes.Scope
scope_told Alone = scopes.Alone
scope_told Owned = scopes.Owned
scope_told Ups = scopes.Ups
scope_told Downs = scopes.Downs

-- a candidate as the laws of what a plan holds see it
abbrev pub candidate_told : Candidate → pending.Candidate
candidate_told l = record { priority = priority_of l.saving.0 (step_of_kind l.kind l.first l.second); owner = l.owner; scope = scope_told l.scope }

-- and one of the same priority that stands alone
abbrev pub alone : Candidate → pending.Candidate
alone l = record { priority = (candidate_told l).priority; owner = l.owner; scope = scopes.Alone }
