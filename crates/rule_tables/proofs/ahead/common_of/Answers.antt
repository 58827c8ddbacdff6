use Rattle.std.proofs.Common.{◌≡◌, ◌+◌, ◌<◌, [], drop, length, map, subst, arith}
use Rattle.rule_tables.proofs.Reached.{common_end, common_next, left_at, none_left_at}
use Rattle.rule_tables.proofs.ahead.common_of.Goals as goal
use Rattle.rule_tables.specs.Ahead.{AreAllOfFirst, reached}
use Rattle.rule_tables.specs.declared.ahead.Common.{Common}

pub loop-number-init : goal.loop-number-init
loop-number-init c = λ final h. subst (λ (start : Common). AreAllOfFirst start (map reached c.args.lists.now.items) c.args.order_key final) c.none-common.ensures h

pub loop-number-preserved : goal.loop-number-preserved
loop-number-preserved c = λ final h.
    let test = c.loop-number-test.true in
    let count = c.len-number-end.ensures in
    let within : c.loop-number.number < length c.args.lists.now.items = omega (arith, test, count) in
    c.loop-number.invariant final
    (common_next c.args.order_key (drop c.loop-number.number (map reached c.args.lists.now.items)) (drop (c.loop-number.number + 1) (map reached c.args.lists.now.items)) (reached c.index-listed.result.now)
    (left_at reached c.args.lists.now.items c.loop-number.number c.index-listed.result.now within c.index-listed.ensures) c.loop-number.common c.with_first-common.result final c.with_first-common.ensures h)

pub returns : goal.returns
returns c =
    let test = c.loop-number-test.false in
    let count = c.len-number-end.ensures in
    let none : drop c.loop-number.number (map reached c.args.lists.now.items) ≡ [] = none_left_at reached c.args.lists.now.items c.loop-number.number (omega (arith, test, count)) in
    c.loop-number.invariant c.loop-number.common (common_end c.args.order_key (drop c.loop-number.number (map reached c.args.lists.now.items)) none c.loop-number.common)
