use Rattle.next_step.proofs.LeftOut.{leaves_light}
use Rattle.next_step.proofs.by_declarations.left_out.leave_out_light.Goals as goal

pub returns-clause-leaves : goal.returns-clause-leaves
returns-clause-leaves c =
    leaves_light c.args.view.now c.args.focus.now c.args.found.now c.args.order_keys.now c.leave_out.new.self c.args.left c.leave_out.result c.in-Some.most c.in-Some.ensures c.leave_out.ensures.leaves
    (c.leave_out.ensures.within (c.are_within.ensures.count c.if-not-are_within.false, c.are_within.ensures.weight c.if-not-are_within.false)) c.requires.common
