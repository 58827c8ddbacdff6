use Rattle.std.proofs.Common.{ap, arith, sym, ℕ, ◌+◌, ◌∙◌}
use Rattle.cnf.specs.Cnf.{Cnf}
use Rattle.formula_laws.specs.Counts.{steps_below}
use Rattle.formula_laws.specs.Hints.{with_shared}
use Rattle.hint_clauses.proofs.Sharing.{pair_rows_grow}
use Rattle.hint_clauses.proofs.hints.add_run_pairs.Goals as goal
use Rattle.hint_clauses.specs.Chains.{owns_at}
use Rattle.sibling_clauses.proofs.ForCallers.{step_room, steps_more, steps_stay}

pub add_run_pair_row-requires-clause-in_range : goal.add_run_pair_row-requires-clause-in_range
add_run_pair_row-requires-clause-in_range c =
    let row : ℕ → Cnf → Cnf = λ p. steps_below (c.args.g.right + 1) (with_shared c.args.left.now c.args.right.now (owns_at c.args.g c.args.count) p) in
    let more = steps_stay c.loop-p.p row c.args.f.now c.loop-p.f (pair_rows_grow c.args.left.now c.args.right.now (owns_at c.args.g c.args.count) (c.args.g.right + 1)) c.loop-p.invariant in
    omega (arith, more, c.requires.in_range)

pub add_run_pair_row-requires-clause-room : goal.add_run_pair_row-requires-clause-room
add_run_pair_row-requires-clause-room c =
    step_room c.loop-p.p (c.args.g.left + 1) _ (λ p. steps_below (c.args.g.right + 1) (with_shared c.args.left.now c.args.right.now (owns_at c.args.g c.args.count) p)) c.args.f.now c.loop-p.f
    (pair_rows_grow c.args.left.now c.args.right.now (owns_at c.args.g c.args.count) (c.args.g.right + 1)) c.loop-p-test.true c.loop-p.invariant c.requires.room

pub loop-p-preserved : goal.loop-p-preserved
loop-p-preserved c =
    let row : ℕ → Cnf → Cnf = λ p. steps_below (c.args.g.right + 1) (with_shared c.args.left.now c.args.right.now (owns_at c.args.g c.args.count) p) in
    c.in_ok-add_run_pair_row.ensures ∙ ap (row c.loop-p.p) c.loop-p.invariant ∙ sym (steps_more c.loop-p.p row c.args.f.now)
