use Rattle.std.proofs.Common.{ap, arith, sym, ℕ, ◌+◌, ◌∙◌}
use Rattle.cnf.specs.Cnf.{Cnf}
use Rattle.formula_laws.specs.Counts.{steps_below}
use Rattle.hint_clauses.proofs.Distanced.{own_row_grows}
use Rattle.hint_clauses.proofs.distances.add_own_distances.Goals as goal
use Rattle.hint_clauses.specs.Counted.{last_of}
use Rattle.hint_clauses.specs.Gaps.{own_step}
use Rattle.sibling_clauses.proofs.ForCallers.{step_room, steps_more, steps_stay}

pub add_own_distances_to-requires-clause-in_range : goal.add_own_distances_to-requires-clause-in_range
add_own_distances_to-requires-clause-in_range c =
    let row : ℕ → Cnf → Cnf = λ q. steps_below q (own_step c.args.pair.now c.args.right q) in
    let more = steps_stay c.loop-q.q row c.args.f.now c.loop-q.f (own_row_grows c.args.pair.now c.args.right) c.loop-q.invariant in
    omega (arith, more, c.requires.in_range)

pub add_own_distances_to-requires-clause-room : goal.add_own_distances_to-requires-clause-room
add_own_distances_to-requires-clause-room c =
    step_room c.loop-q.q (last_of c.args.pair.now c.args.right + 1) _ (λ q. steps_below q (own_step c.args.pair.now c.args.right q)) c.args.f.now c.loop-q.f (own_row_grows c.args.pair.now c.args.right) (omega arith) c.loop-q.invariant
    c.requires.room

pub loop-q-preserved : goal.loop-q-preserved
loop-q-preserved c =
    let row : ℕ → Cnf → Cnf = λ q. steps_below q (own_step c.args.pair.now c.args.right q) in
    c.in_ok-add_own_distances_to.ensures ∙ ap (row c.loop-q.q) c.loop-q.invariant ∙ sym (steps_more c.loop-q.q row c.args.f.now)
