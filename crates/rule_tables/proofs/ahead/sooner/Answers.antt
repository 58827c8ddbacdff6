use Rattle.std.proofs.Common.{ℕ, Option, Some, subst, sym, arith}
use Rattle.std.proofs.lemmas.List.{nil_from_length}
use Rattle.rule_tables.proofs.Reached.{sooner_first, sooner_new, sooner_none, sooner_other}
use Rattle.rule_tables.proofs.ahead.sooner.Goals as goal
use Rattle.rule_tables.specs.Ahead.{IsSooner}

pub returns-in_default : goal.returns-in_default
returns-in_default c = sooner_none c.args.best c.args.order_keys.now (nil_from_length c.args.order_keys.now c.in_default.ensures.cases)

pub returns-in_default-best : goal.returns-in_default-best
returns-in_default-best c =
    subst (λ (best : Option ℕ). IsSooner best c.args.order_keys.now (Some c.in-Some.first.now)) (sym c.in_default-best.is)
    (sooner_first c.args.order_keys.now c.in-Some._behind.now c.in-Some.first.now c.in-Some.ensures.cases.0 c.requires)

pub returns-then-other-first : goal.returns-then-other-first
returns-then-other-first c =
    subst (λ (best : Option ℕ). IsSooner best c.args.order_keys.now (Some c.in-Some-best.other)) (sym c.in-Some-best.is)
    (sooner_other c.args.order_keys.now c.in-Some._behind.now c.in-Some.first.now c.in-Some.ensures.cases.0 c.requires c.in-Some-best.other c.if-other-first.true)

pub returns : goal.returns
returns c =
    let over = c.if-other-first.false in
    subst (λ (best : Option ℕ). IsSooner best c.args.order_keys.now (Some c.in-Some.first.now)) (sym c.in-Some-best.is)
    (sooner_new c.args.order_keys.now c.in-Some._behind.now c.in-Some.first.now c.in-Some.ensures.cases.0 c.requires c.in-Some-best.other (omega (arith, over)))
