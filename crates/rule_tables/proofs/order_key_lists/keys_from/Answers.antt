use Rattle.std.proofs.Common.{ℕ, ◌↔◌, ◌≤◌, List, subst, sym}
use Rattle.std.specs.List.{Contains}
use Rattle.std.specs.List.Sorted.{IsStrictlyIncreasing}
use Rattle.rule_tables.proofs.Ascending.{in_rest, rest_ascends}
use Rattle.rule_tables.proofs.FreePlaces.{whole}
use Rattle.rule_tables.proofs.order_key_lists.keys_from.Goals as goal

pub returns-clause-ascends : goal.returns-clause-ascends
returns-clause-ascends c = subst IsStrictlyIncreasing (sym (whole c.args.order_keys.now c.count_below.result)) (rest_ascends c.args.order_keys.now c.count_below.result c.requires)

pub returns-clause-from : goal.returns-clause-from
returns-clause-from c =
    subst (λ (ys : List ℕ). (k : ℕ) → Contains ys k ↔ (Contains c.args.order_keys.now k × (c.args.at ≤ k))) (sym (whole c.args.order_keys.now c.count_below.result))
    (in_rest c.args.order_keys.now c.args.at c.count_below.result c.count_below.ensures.few c.count_below.ensures.below c.count_below.ensures.from)
