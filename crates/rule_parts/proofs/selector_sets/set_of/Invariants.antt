use Rattle.std.proofs.Common.{length}
use Rattle.rule_parts.proofs.SelectorSets.{AreBeside}
use Rattle.rule_parts.proofs.selector_sets.set_of.Given as goal

-- those in the set and those that are left
abbrev pub invariant-rest : goal.invariant-rest
invariant-rest l = AreBeside l.rest l.set.keys l.items

abbrev pub decreases-rest : goal.decreases-rest
decreases-rest l = length l.rest
