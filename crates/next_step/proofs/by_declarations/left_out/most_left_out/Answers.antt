use Rattle.std.proofs.Common.{◌+◌, ◌-◌, ◌<◌, ap, arith, inl, length}
use Rattle.next_step.specs.Looking.{FoundParts}
use Rattle.next_step.proofs.Later.{found_late}
use Rattle.next_step.proofs.LeftOut.{are_too_light}
use Rattle.next_step.proofs.by_declarations.left_out.most_left_out.Goals as goal
use Rattle.plan_laws.specs.Barrier.Hindering.{priority_of}

pub returns : goal.returns
returns c =
    let weighed = c.requires.view.weighed in
    let once = weighed.once (c.can_be_weighed.ensures.once c.if-not-can_be_weighed.false) in
    let plain = weighed.plain (c.can_be_weighed.ensures.plain c.if-not-can_be_weighed.false) in
    let ours = c.weight_at-ours.ensures c.args.focus.now.rule.now c.requires.focus.rule in
    let count = ours.count in
    let least = ours.least in
    let same = c.from.ensures in
    let some_count = c.if-ours-eq0-2.false in
    let some_least = c.if-ours-eq0.false in
    are_too_light c.args.view.now c.requires.view c.args.focus.now c.requires.focus c.marks-marks.ensures.are_marks c.args.found.now
    (c.requires.focus.own_selectors (c.can_be_weighed.ensures.own c.if-not-can_be_weighed.false)) (λ n r at. (once n r at, plain n r at))
    (record { count = c.weight_at-ours.result.count - 1; weight = c.from.result + c.saving_below-spare.result }) c.weight_at-ours.result.least c.saving_below-spare.result
    (inl ((let less : c.weight_at-ours.result.count - 1 < length c.args.focus.now.rule.now.decls = omega (arith, count, some_count) in less), least)) (omega (arith, some_least)) (omega (arith, same))
    (λ n k more few. found_late c.found.inside.others c.args.found.now (ap (λ (f : FoundParts). f.others) c.found.view_is) (priority_of n k) (c.saving_below-spare.ensures.late n k more few))
