use Rattle.std.proofs.Common.{◌≡◌, inl, inr, ℕ, ◌+◌, ◌<◌, List, [], ◌∷◌, drop, length, subst, arith}
use Rattle.std.specs.List.{Contains}
use Rattle.rule_tables.proofs.Reached.{left_at, none_left_at, others_end, others_next}
use Rattle.rule_tables.proofs.Sharing.{only_own}
use Rattle.rule_tables.proofs.shared_keys.SharedKeys.has_no_other.Goals as goal
use Rattle.rule_tables.specs.Ahead.{Reached}
use Rattle.rule_tables.specs.declared.shared_keys.SharedList.{SharedList}
use Rattle.rule_tables.specs.OrderKeys.{order_keys_of}
use Rattle.rule_tables.specs.SharedKeys.{shared}

pub loop-number-init : goal.loop-number-init
loop-number-init c = λ k h. inr h

pub loop-number-preserved : goal.loop-number-preserved
loop-number-preserved c =
    let test = c.loop-number-test.true in
    let count = c.len-number-end.ensures in
    let within : c.loop-number.number < length c.self.inside.lists.items = omega (arith, test, count) in
    let x : SharedList = c.index-shared.result.now in
    let is : drop c.loop-number.number c.args.self.now ≡ shared x ∷ drop (c.loop-number.number + 1) c.args.self.now =
    subst (λ (lists : List Reached). drop c.loop-number.number lists ≡ shared x ∷ drop (c.loop-number.number + 1) lists) c.self.view_is
    (left_at shared c.self.inside.lists.items c.loop-number.number x within c.index-shared.ensures) in
    let only : (k : ℕ) → Contains (order_keys_of x.order_keys) k → k ≡ c.args.own =
    subst (λ (ks : List ℕ). (k : ℕ) → Contains ks k → k ≡ c.args.own) c.list.ensures (only_own c.list.result.now c.args.own (c.has_no_other.ensures.0 c.if-not-has_no_other.false)) in
    λ k h. elim (c.loop-number.invariant k h) [
      | inl own ↦ inl own
      | inr g ↦ others_next (drop c.loop-number.number c.args.self.now) (drop (c.loop-number.number + 1) c.args.self.now) (shared x) c.args.own is only k g
    ]

pub returns : goal.returns
returns c = λ _ k h.
    let test = c.loop-number-test.false in
    let count = c.len-number-end.ensures in
    let none : drop c.loop-number.number c.args.self.now ≡ [] =
    subst (λ (lists : List Reached). drop c.loop-number.number lists ≡ []) c.self.view_is (none_left_at shared c.self.inside.lists.items c.loop-number.number (omega (arith, test, count))) in
    others_end (drop c.loop-number.number c.args.self.now) c.args.own k none (c.loop-number.invariant k h)
