use Rattle.std.proofs.Common.{◌≡◌, ◌+◌, ◌<◌, [], drop, length, map, arith}
use Rattle.rule_tables.proofs.Reached.{ascends_at, best_end, best_next, best_none, best_some, left_at, none_left_at}
use Rattle.rule_tables.proofs.ahead.first_of.Goals as goal
use Rattle.rule_tables.specs.Ahead.{reached}

pub loop-number-init : goal.loop-number-init
loop-number-init c = λ final h. h

pub sooner-best-requires : goal.sooner-best-requires
sooner-best-requires c =
    let test = c.loop-number-test.true in
    let count = c.len-number-end.ensures in
    ascends_at reached c.args.lists.now.items c.loop-number.number c.index-listed.result.now (omega (arith, test, count)) c.index-listed.ensures c.requires

pub loop-number-preserved : goal.loop-number-preserved
loop-number-preserved c = λ final h.
    let test = c.loop-number-test.true in
    let count = c.len-number-end.ensures in
    let within : c.loop-number.number < length c.args.lists.now.items = omega (arith, test, count) in
    c.loop-number.invariant final
    (best_next c.loop-number.best c.sooner-best.result (drop c.loop-number.number (map reached c.args.lists.now.items)) (drop (c.loop-number.number + 1) (map reached c.args.lists.now.items)) (reached c.index-listed.result.now)
    (left_at reached c.args.lists.now.items c.loop-number.number c.index-listed.result.now within c.index-listed.ensures) c.sooner-best.ensures final h)

pub returns-clause-some : goal.returns-clause-some
returns-clause-some c =
    let test = c.loop-number-test.false in
    let count = c.len-number-end.ensures in
    let none : drop c.loop-number.number (map reached c.args.lists.now.items) ≡ [] = none_left_at reached c.args.lists.now.items c.loop-number.number (omega (arith, test, count)) in
    best_some (map reached c.args.lists.now.items) c.loop-number.best (c.loop-number.invariant c.loop-number.best (best_end c.loop-number.best (drop c.loop-number.number (map reached c.args.lists.now.items)) none))

pub returns-clause-none : goal.returns-clause-none
returns-clause-none c =
    let test = c.loop-number-test.false in
    let count = c.len-number-end.ensures in
    let none : drop c.loop-number.number (map reached c.args.lists.now.items) ≡ [] = none_left_at reached c.args.lists.now.items c.loop-number.number (omega (arith, test, count)) in
    best_none (map reached c.args.lists.now.items) c.loop-number.best (c.loop-number.invariant c.loop-number.best (best_end c.loop-number.best (drop c.loop-number.number (map reached c.args.lists.now.items)) none))
