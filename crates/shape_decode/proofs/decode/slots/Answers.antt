use Rattle.std.proofs.Common.{arith, suc, ◌+◌}
use Rattle.formula_laws.specs.Path.{true_nodes}
use Rattle.shape_decode.proofs.Along.{slots_within}
use Rattle.shape_decode.proofs.decode.slots.Goals as goal
use Rattle.shape_decode.specs.Read.{after_left, after_right, before_left, before_right}

pub returns-clause-few : goal.returns-clause-few
returns-clause-few c =
    let g = c.args.reading.now.g in
    let values = c.args.reading.now.values.now in
    rw (c.in_ok-push_slots.ensures, c.new-slots.ensures.items)
    (let w = slots_within (g.left + g.right) c.args.reading.now.left.now c.args.reading.now.right.now (true_nodes (suc g.right) values) (before_left g values) (after_left g values) (before_right g values) (after_right g values) 0 0 c.args.before in
    omega (arith, w, c.requires.small.left, c.requires.small.right))
