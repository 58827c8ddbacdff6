use Rattle.std.proofs.Common.{◌≡◌, ◌++◌, ◌+◌, drop, map}
use Rattle.std.specs.List.{enumerate_from}
use Rattle.dead_text.specs.Listing as spec
use Rattle.dead_text.proofs.listing.push_rule.Given as goal

-- what was put, and what is left to put
abbrev pub invariant-loop-i : goal.invariant-loop-i
invariant-loop-i l =
    l.found.items ++ map (spec.numbered l.item) (enumerate_from (l.i + 1) (drop l.i l.selectors))
    ≡ l.fn.found.items ++ map (spec.numbered l.item) (enumerate_from 1 l.selectors)
