use Rattle.std.proofs.Common.{◌≡◌, ◌≤◌, ◌+◌, ◌++◌, length}
use Rattle.sheet_same.specs.Twins as spec
use Rattle.sheet_same.proofs.twins.counts.Given as goal

-- the first ones are there, and what is left to count
abbrev pub invariant-rest : goal.invariant-rest
invariant-rest l = record {
  counts : l.found.items ++ spec.counts_from l.count l.rest ≡ spec.counts_from 0 l.items;
  few : l.count + length l.rest ≤ length l.items;
}

abbrev pub decreases-rest : goal.decreases-rest
decreases-rest l = length l.rest
