use Rattle.std.proofs.Common.{◌≡◌, ◌++◌, ◌+◌, length}
use Rattle.order_laws.specs.Edits as edits
use Rattle.order_laws.specs.Slots.{new_items}
use Rattle.merge_steps.proofs.edits.changed.Given as goal

-- what the first items became, and what the others become
abbrev pub invariant-rest : goal.invariant-rest
invariant-rest l = record {
  items : l.new.items ++ new_items (edits.slots_from l.number l.changes l.rest) ≡ new_items (edits.slots_from 0 l.changes l.initial.rest);
  number : l.number + length l.rest ≡ length l.initial.rest;
}

abbrev pub decreases-rest : goal.decreases-rest
decreases-rest l = length l.rest
