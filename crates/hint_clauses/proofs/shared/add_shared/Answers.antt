use Rattle.std.proofs.Common.{subst, sym, true, ℕ, ◌∙◌, ◌≡◌}
use Rattle.formula_laws.specs.Asked.{starts_run}
use Rattle.hint_clauses.proofs.Sharing.{left_out, right_out}
use Rattle.hint_clauses.proofs.shared.add_shared.Goals as goal
use Rattle.hint_clauses.specs.Chains.{owns_at}

pub returns-then-not-left_begins : goal.returns-then-not-left_begins
returns-then-not-left_begins c =
    left_out c.args.left.now c.args.right.now (owns_at c.args.g c.args.count) c.args.p c.args.q c.args.f.now (sym c.begins_run-left_begins.ensures ∙ c.if-not-left_begins.true)

pub returns-then-not-right_begins : goal.returns-then-not-right_begins
returns-then-not-right_begins c =
    right_out c.args.left.now c.args.right.now (owns_at c.args.g c.args.count) c.args.p c.args.q c.args.f.now (sym c.begins_run-right_begins.ensures ∙ c.if-not-right_begins.true)

pub add_runs_shared-requires-clause-left_begins : goal.add_runs_shared-requires-clause-left_begins
add_runs_shared-requires-clause-left_begins c =
    subst (λ (k : ℕ). starts_run c.args.left.now.links k ≡ true) (sym c.in_ok-runs.ensures.left) (sym c.begins_run-left_begins.ensures ∙ c.if-not-left_begins.false)

pub add_runs_shared-requires-clause-right_begins : goal.add_runs_shared-requires-clause-right_begins
add_runs_shared-requires-clause-right_begins c =
    subst (λ (k : ℕ). starts_run c.args.right.now.links k ≡ true) (sym c.in_ok-runs.ensures.right) (sym c.begins_run-right_begins.ensures ∙ c.if-not-right_begins.false)

pub add_runs_shared-requires-clause-room : goal.add_runs_shared-requires-clause-room
add_runs_shared-requires-clause-room c = rw (c.in_ok-runs.ensures.numbering, c.in_ok-runs.ensures.count, c.in_ok-runs.ensures.left, c.in_ok-runs.ensures.right) c.requires.room

pub returns : goal.returns
returns c =
    c.in_ok-add_runs_shared.ensures ∙ rw (c.in_ok-runs.ensures.numbering, c.in_ok-runs.ensures.count, c.in_ok-runs.ensures.left, c.in_ok-runs.ensures.right)
