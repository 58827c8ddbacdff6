use Rattle.std.proofs.Common.{length}
use Rattle.rule_tables.specs.Tables.{PutsRules, TableParts, order_keyed}
use Rattle.rule_tables.proofs.tables.Tables.new.Given as goal

abbrev pub invariant-rest : goal.invariant-rest
invariant-rest l = (final : TableParts) → PutsRules l.tables (order_keyed l.rest l.rest_of_order_keys) final → PutsRules l.initial.tables (order_keyed l.initial.rest l.initial.rest_of_order_keys) final

abbrev pub decreases-rest : goal.decreases-rest
decreases-rest l = length l.rest
