use Rattle.std.proofs.Common.{ℕ, length}
use Rattle.std.specs.List.{Contains}
use Rattle.rule_tables.proofs.OtherRules.{IsOther}
use Rattle.rule_tables.proofs.pairs.is_pair_in_both.Given as goal

abbrev pub invariant-rest : goal.invariant-rest
invariant-rest g l = (order_key : ℕ) → Contains l.initial.rest order_key → IsOther (g.R.OrderKeyedRules.rules l.rules) l.own l.selector l.decl order_key → Contains l.rest order_key

abbrev pub decreases-rest : goal.decreases-rest
decreases-rest g l = length l.rest
