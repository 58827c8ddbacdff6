use Rattle.std.proofs.Common.{List, length}
use Rattle.rule_tables.specs.declared.entries.Entry.{Entry}
use Rattle.rule_tables.specs.Entries.{TakesOut, decl_entries}
use Rattle.rule_tables.proofs.entries.take_decls.Given as goal

abbrev pub invariant-rest : goal.invariant-rest
invariant-rest l = (final : List Entry) → TakesOut l.entries (decl_entries l.order_key l.rest) final → TakesOut l.initial.entries (decl_entries l.order_key l.initial.rest) final

abbrev pub decreases-rest : goal.decreases-rest
decreases-rest l = length l.rest
