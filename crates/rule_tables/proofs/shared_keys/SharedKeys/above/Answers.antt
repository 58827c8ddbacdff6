use Rattle.std.proofs.Common.{◌≡◌, ◌↔◌, ℕ, ◌+◌, ◌<◌, List, [], ◌∷◌, drop, length, refl, subst, sym, arith}
use Rattle.std.specs.List.{Contains}
use Rattle.std.specs.List.Sorted.{IsStrictlyIncreasing}
use Rattle.rule_tables.proofs.Reached.{ascends_at, goes_end, goes_next, gone_ahead, gone_same, left_at, none_left_at}
use Rattle.rule_tables.proofs.shared_keys.SharedKeys.above.Goals as goal
use Rattle.rule_tables.specs.Ahead.{Reached}
use Rattle.rule_tables.specs.declared.shared_keys.SharedList.{SharedList}
use Rattle.rule_tables.specs.OrderKeys.{order_keys_of}
use Rattle.rule_tables.specs.SharedKeys.{shared}

pub loop-number-init : goal.loop-number-init
loop-number-init c = λ final h. h

pub keys_above-requires : goal.keys_above-requires
keys_above-requires c =
    let test = c.loop-number-test.true in
    let count = c.len-number-end.ensures in
    subst IsStrictlyIncreasing (sym c.list.ensures)
    (ascends_at shared c.self.inside.lists.items c.loop-number.number c.index-shared.result.now (omega (arith, test, count)) c.index-shared.ensures c.self.invariant)

pub loop-number-preserved : goal.loop-number-preserved
loop-number-preserved c = λ final h.
    let test = c.loop-number-test.true in
    let count = c.len-number-end.ensures in
    let within : c.loop-number.number < length c.self.inside.lists.items = omega (arith, test, count) in
    let x : SharedList = c.index-shared.result.now in
    let is : drop c.loop-number.number c.args.self.now ≡ shared x ∷ drop (c.loop-number.number + 1) c.args.self.now =
    subst (λ (lists : List Reached). drop c.loop-number.number lists ≡ shared x ∷ drop (c.loop-number.number + 1) lists) c.self.view_is
    (left_at shared c.self.inside.lists.items c.loop-number.number x within c.index-shared.ensures) in
    let some : (k : ℕ) → Contains c.keys_above.result.now k ↔ (Contains (order_keys_of x.order_keys) k × (c.args.at < k)) =
    λ k. subst (λ (ks : List ℕ). Contains c.keys_above.result.now k ↔ (Contains ks k × (c.args.at < k))) c.list.ensures (c.keys_above.ensures.above k) in
    c.loop-number.invariant final
    (goes_next (λ k. c.args.at < k) (drop c.loop-number.number c.args.self.now) (drop (c.loop-number.number + 1) c.args.self.now) (shared x) (record { order_keys = c.keys_above.result.now; common = x.common })
    c.loop-number.ahead c.put.new.self final is refl some c.in_ok-put.ensures h)

pub returns-clause-ahead : goal.returns-clause-ahead
returns-clause-ahead c =
    let test = c.loop-number-test.false in
    let count = c.len-number-end.ensures in
    let none : drop c.loop-number.number c.args.self.now ≡ [] =
    subst (λ (lists : List Reached). drop c.loop-number.number lists ≡ []) c.self.view_is (none_left_at shared c.self.inside.lists.items c.loop-number.number (omega (arith, test, count))) in
    gone_ahead (λ k. c.args.at < k) c.args.self.now c.in_ok-ahead.ahead c.loop-number.ahead c.in_ok-ahead.ensures
    (c.loop-number.invariant c.loop-number.ahead (goes_end (λ k. c.args.at < k) (drop c.loop-number.number c.args.self.now) c.loop-number.ahead none))

pub returns-clause-same : goal.returns-clause-same
returns-clause-same c =
    let test = c.loop-number-test.false in
    let count = c.len-number-end.ensures in
    let none : drop c.loop-number.number c.args.self.now ≡ [] =
    subst (λ (lists : List Reached). drop c.loop-number.number lists ≡ []) c.self.view_is (none_left_at shared c.self.inside.lists.items c.loop-number.number (omega (arith, test, count))) in
    gone_same (λ k. c.args.at < k) c.args.self.now c.in_ok-ahead.ahead c.loop-number.ahead c.in_ok-ahead.ensures
    (c.loop-number.invariant c.loop-number.ahead (goes_end (λ k. c.args.at < k) (drop c.loop-number.number c.args.self.now) c.loop-number.ahead none))
