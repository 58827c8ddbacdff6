use Rattle.std.proofs.Common.{◌≡◌, ◌+◌, ◌-◌, ◌≤◌, ◌++◌, List, Some, length, replicate, subst, arith}
use Rattle.std.specs.Prelude.{slice_get, vec_len}
use Rattle.std.proofs.lemmas.List.{take_all}
use Rattle.planner.proofs.Barred.{filled, none}
use Rattle.planner.proofs.barring.grow.Goals as goal
use Rattle.step_queue.specs.declared.barriers.Barrier.{Barrier}

pub returns-in_ok-resize-clause-left : goal.returns-in_ok-resize-clause-left
returns-in_ok-resize-clause-left c = λ b l at some.
    let long : length c.args.barriers.now.items ≤ c.args.item_id + 1 = omega (arith, c.if-len-item_id.true) in
    filled c.args.barriers.now.items (c.args.item_id + 1 - vec_len c.args.barriers.now) b l
    (subst (λ (xs : List Barrier). slice_get (xs ++ replicate (c.args.item_id + 1 - vec_len c.args.barriers.now) none) b ≡ Some l) (take_all (c.args.item_id + 1) c.args.barriers.now.items long)
    (subst (λ (xs : List Barrier). slice_get xs b ≡ Some l) c.in_ok-resize.ensures.items at)) some
