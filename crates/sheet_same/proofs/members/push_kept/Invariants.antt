use Rattle.std.proofs.Common.{◌≡◌, ◌++◌, length, map, ◌+◌}
use Rattle.order_laws.specs.Reversed.{kept_from}
use Rattle.sheet_same.specs.Members as spec
use Rattle.sheet_same.proofs.members.push_kept.Given as goal

-- what was put, and what is left to put
abbrev pub invariant-rest : goal.invariant-rest
invariant-rest l = record {
  members : l.found.items ++ map spec.kept_member (kept_from l.number l.rest) ≡ l.fn.found.items ++ map spec.kept_member (kept_from 0 l.items);
  number : l.number + length l.rest ≡ length l.items;
}

abbrev pub decreases-rest : goal.decreases-rest
decreases-rest l = length l.rest
