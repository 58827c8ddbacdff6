use Rattle.std.proofs.Common.{ap, arith, sym, ℕ, ◌+◌, ◌∙◌}
use Rattle.cnf.specs.Cnf.{Cnf}
use Rattle.formula_laws.specs.Counts.{steps_below}
use Rattle.hint_clauses.proofs.Distanced.{shared_row_grows}
use Rattle.hint_clauses.proofs.distances.add_shared_distances.Goals as goal
use Rattle.hint_clauses.specs.Gaps.{shared_step}
use Rattle.sibling_clauses.proofs.ForCallers.{step_room, steps_more, steps_stay}

pub add_shared_distances_of-requires-clause-in_range : goal.add_shared_distances_of-requires-clause-in_range
add_shared_distances_of-requires-clause-in_range c =
    let row : ℕ → Cnf → Cnf = λ p. steps_below (c.args.pair.now.numbering.right + 1) (shared_step c.args.pair.now p) in
    let more = steps_stay c.loop-p.p row c.args.f.now c.loop-p.f (shared_row_grows c.args.pair.now (c.args.pair.now.numbering.right + 1)) c.loop-p.invariant in
    omega (arith, more, c.requires.in_range)

pub add_shared_distances_of-requires-clause-room : goal.add_shared_distances_of-requires-clause-room
add_shared_distances_of-requires-clause-room c =
    step_room c.loop-p.p (c.args.pair.now.numbering.left + 1) _ (λ p. steps_below (c.args.pair.now.numbering.right + 1) (shared_step c.args.pair.now p)) c.args.f.now c.loop-p.f
    (shared_row_grows c.args.pair.now (c.args.pair.now.numbering.right + 1)) c.loop-p-test.true c.loop-p.invariant c.requires.room

pub loop-p-preserved : goal.loop-p-preserved
loop-p-preserved c =
    let row : ℕ → Cnf → Cnf = λ p. steps_below (c.args.pair.now.numbering.right + 1) (shared_step c.args.pair.now p) in
    c.in_ok-add_shared_distances_of.ensures ∙ ap (row c.loop-p.p) c.loop-p.invariant ∙ sym (steps_more c.loop-p.p row c.args.f.now)
