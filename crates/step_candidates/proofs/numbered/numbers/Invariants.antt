use Rattle.std.proofs.Common.{◌≡◌, ◌++◌, ◌+◌, length}
use Rattle.std.specs.List.{range_with_len}
use Rattle.step_candidates.specs.Numbered.{numbers}
use Rattle.step_candidates.proofs.numbered.numbers.Given as goal

-- the numbers so far, and those of what is left
abbrev pub invariant-rest : goal.invariant-rest
invariant-rest l = record {
  list : l.list.items ++ range_with_len l.number (length l.rest) ≡ numbers l.initial.rest;
  number : l.number + length l.rest ≡ length l.initial.rest;
}

abbrev pub decreases-rest : goal.decreases-rest
decreases-rest l = length l.rest
