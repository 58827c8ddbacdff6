-- Order keys that are found (own).
use Rattle.std.specs.Prelude.{ℕ, List}
use Rattle.rule_tables.specs.declared.order_keys.OrderKeys.{OrderKeys}
use Rattle.rule_tables.specs.declared.order_keys.OrderKeys.TheVariants.{Made, Under}

-- the order keys, in their order
abbrev pub order_keys_of : OrderKeys → List ℕ
order_keys_of (Under order_keys) = order_keys.now
order_keys_of (Made order_keys) = order_keys.items
