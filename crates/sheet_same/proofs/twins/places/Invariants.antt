use Rattle.std.proofs.Common.{◌≡◌, ◌+◌, ◌++◌, length}
use Rattle.sheet_same.specs.Twins as spec
use Rattle.sheet_same.proofs.twins.places.Given as goal

-- the first ones are there, and what is left to number
abbrev pub invariant-rest : goal.invariant-rest
invariant-rest l = record {
  places : l.found.items ++ spec.places_from l.number l.rest ≡ spec.places_from 0 l.items;
  number : l.number + length l.rest ≡ length l.items;
}

abbrev pub decreases-rest : goal.decreases-rest
decreases-rest l = length l.rest
