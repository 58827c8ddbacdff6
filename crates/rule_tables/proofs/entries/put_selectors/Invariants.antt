use Rattle.std.proofs.Common.{List, length}
use Rattle.rule_tables.specs.declared.entries.Entry.{Entry}
use Rattle.rule_tables.specs.Entries.{Puts, PutsSome, selector_entries}
use Rattle.rule_tables.proofs.entries.put_selectors.Given as goal

abbrev pub invariant-rest : goal.invariant-rest
invariant-rest l = record {
  whole : (final : List Entry) → Puts l.entries (selector_entries l.order_key l.rest) final → Puts l.initial.entries (selector_entries l.order_key l.initial.rest) final;
  part : (final : List Entry) → PutsSome l.entries (selector_entries l.order_key l.rest) final → PutsSome l.initial.entries (selector_entries l.order_key l.initial.rest) final;
}

abbrev pub decreases-rest : goal.decreases-rest
decreases-rest l = length l.rest
