-- What the proofs of other crates may cite: whether the rule with an order key has a pair, what a list has, and what declarations of
-- two rules are at most.
pub use Rattle.rule_tables.proofs.InCommon.{passes_few, passes_light, reaches_through}
pub use Rattle.rule_tables.proofs.OrderKeyedPairs.{pair_of_rule, pair_of_none, some_then, none_then}
pub use Rattle.rule_tables.proofs.PartTests.{AreDone, all_done, none_done, one_done}
