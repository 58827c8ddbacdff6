-- Order keys of rules that have a declaration in common with a rule (own).
use Rattle.std.specs.Prelude.{ℕ, List}
use Rattle.rule_tables.specs.Ahead.{IsAhead, Reached}
use Rattle.rule_tables.specs.declared.shared_keys.SharedList.{SharedList}
use Rattle.rule_tables.specs.OrderKeys.{order_keys_of}

abbrev pub shared : SharedList → Reached
shared l = record { order_keys = order_keys_of l.order_keys; common = l.common }

-- an order key is in one of the lists
abbrev pub IsShared : List Reached → ℕ → Type 0
IsShared lists order_key = IsAhead lists order_key
