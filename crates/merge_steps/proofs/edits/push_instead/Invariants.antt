use Rattle.std.proofs.Common.{◌≡◌, length}
use Rattle.order_laws.specs.Edits as edits
use Rattle.merge_steps.proofs.edits.push_instead.Given as goal

-- none of the first changes is of this item
abbrev pub invariant-rest : goal.invariant-rest
invariant-rest l = record {
  items : l.items.items ≡ l.fn.items.items;
  rest : edits.instead l.rest l.number l.item ≡ edits.instead l.initial.rest l.number l.item;
}

abbrev pub decreases-rest : goal.decreases-rest
decreases-rest l = length l.rest
