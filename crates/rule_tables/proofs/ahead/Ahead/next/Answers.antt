use Rattle.std.proofs.Common.{ℕ, ◌<◌, ◌≢◌, ◌↔◌, List, map, refl, subst, sym}
use Rattle.rule_tables.proofs.Reached.{all_of_first, passed_ahead, passed_ascend, passed_less, passed_same}
use Rattle.rule_tables.proofs.ahead.Ahead.next.Goals as goal
use Rattle.rule_tables.specs.Ahead.{AreAllAt, IsAhead, IsFirst, Reached, SaysTheSame, count_left, reached}
use Rattle.rule_tables.specs.declared.ahead.Common.{Common}

pub returns-in_default-clause-none : goal.returns-in_default-clause-none
returns-in_default-clause-none c = λ k h. c.in_default.ensures.none k (subst (λ (lists : List Reached). IsAhead lists k) (sym c.self.view_is) h)

pub invariant_of-self : goal.invariant_of-self
invariant_of-self c = passed_ascend c.in-Some.order_key (map reached c.self.inside.lists.items) c.self.invariant c.in-Some.ensures.some (map reached c.pass_each.new.lists.items) c.pass_each.ensures

pub returns-clause-first : goal.returns-clause-first
returns-clause-first c = subst (λ (lists : List Reached). IsFirst lists c.in-Some.order_key) c.self.view_is c.in-Some.ensures.some

pub returns-clause-common : goal.returns-clause-common
returns-clause-common c =
    let none : Common = record { count = 0; weight = 0 } in
    subst (λ (lists : List Reached). AreAllAt lists c.in-Some.order_key c.common_of-common.result) c.self.view_is
    (all_of_first c.in-Some.order_key (map reached c.self.inside.lists.items) c.self.invariant c.in-Some.ensures.some c.common_of-common.result none refl c.common_of-common.ensures)

pub returns-clause-rest : goal.returns-clause-rest
returns-clause-rest c =
    subst (λ (lists : List Reached). (k : ℕ) → IsAhead (map reached c.pass_each.new.lists.items) k ↔ (IsAhead lists k × (k ≢ c.in-Some.order_key))) c.self.view_is
    (passed_ahead c.in-Some.order_key (map reached c.self.inside.lists.items) c.self.invariant c.in-Some.ensures.some (map reached c.pass_each.new.lists.items) c.pass_each.ensures)

pub returns-clause-others : goal.returns-clause-others
returns-clause-others c =
    subst (λ (lists : List Reached). SaysTheSame (λ k. k ≢ c.in-Some.order_key) lists (map reached c.pass_each.new.lists.items)) c.self.view_is
    (passed_same c.in-Some.order_key (map reached c.self.inside.lists.items) c.self.invariant c.in-Some.ensures.some (map reached c.pass_each.new.lists.items) c.pass_each.ensures)

pub returns-clause-fewer : goal.returns-clause-fewer
returns-clause-fewer c =
    subst (λ (lists : List Reached). count_left (map reached c.pass_each.new.lists.items) < count_left lists) c.self.view_is
    (passed_less c.in-Some.order_key (map reached c.self.inside.lists.items) c.self.invariant c.in-Some.ensures.some (map reached c.pass_each.new.lists.items) c.pass_each.ensures)
