use Rattle.std.proofs.Common.{◌≡◌, take}
use Rattle.rule_tables.specs.Tables as spec
use Rattle.rule_tables.proofs.digests.selector_digests.Given as goal

abbrev pub invariant-loop-item : goal.invariant-loop-item
invariant-loop-item l = l.digests.items ≡ spec.selector_digests (take l.item-index l.selectors)
