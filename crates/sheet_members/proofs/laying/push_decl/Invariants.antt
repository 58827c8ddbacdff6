use Rattle.std.proofs.Common.{◌≡◌, ◌++◌, length, map}
use Rattle.sheet_members.specs.Occurrences.{pair_of}
use Rattle.sheet_members.proofs.laying.push_decl.Given as goal

-- what was put, and what is left to put
abbrev pub invariant-selectors : goal.invariant-selectors
invariant-selectors l = l.found.items ++ map (pair_of l.layer l.item l.d) l.rest ≡ l.fn.found.items ++ map (pair_of l.layer l.item l.d) l.fn.selectors

abbrev pub decreases-selectors : goal.decreases-selectors
decreases-selectors l = length l.rest
