use Rattle.std.proofs.Common.{◌≡◌, ◌++◌, ◌+◌, drop}
use Rattle.std.specs.List.{enumerate_from, flat_map}
use Rattle.dead_text.specs.Listing as spec
use Rattle.dead_text.proofs.listing.numbered_selectors.Given as goal

-- what was put, and what is left to put
abbrev pub invariant-loop-i : goal.invariant-loop-i
invariant-loop-i l = l.found.items ++ flat_map spec.selectors_in (enumerate_from (l.i + 1) (drop l.i l.items)) ≡ spec.numbered_selectors l.items
