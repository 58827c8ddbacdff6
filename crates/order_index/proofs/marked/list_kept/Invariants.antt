use Rattle.std.proofs.Common.{◌≡◌, ◌+◌, ◌++◌, length}
use Rattle.order_index.proofs.marked.list_kept.Given as goal
use Rattle.order_laws.specs.Reversed.{kept_from}

-- what was found, and what is left to find
abbrev pub invariant-rest : goal.invariant-rest
invariant-rest l = record {
  kept : l.found.items ++ kept_from l.number l.rest ≡ kept_from 0 l.items;
  number : l.number + length l.rest ≡ length l.items;
}

abbrev pub decreases-rest : goal.decreases-rest
decreases-rest l = length l.rest
