-- An indexed sheet's rules by their marks (own).
use Rattle.std.specs.Prelude.{ℕ, List, nat_lt, not}
use Rattle.std.specs.List.{filter}
use Rattle.indexed_sheet.specs.IndexedParts.{IndexedParts}
use Rattle.indexed_sheet.specs.MarkList.{order_keys_of}
use Rattle.rule_tables.specs.Tables.{OrderKeyed, order_keyed}

-- the rules, each with its order key
abbrev pub rules_of : IndexedParts → List OrderKeyed
rules_of indexed = order_keyed indexed.items (order_keys_of indexed.marks)

-- those of them whose order keys are not below one
abbrev pub rules_from : ℕ → List OrderKeyed → List OrderKeyed
rules_from from rules = filter (λ x. not (nat_lt x.order_key from)) rules
