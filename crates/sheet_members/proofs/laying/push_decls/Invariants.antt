use Rattle.std.proofs.Common.{◌≡◌, ◌++◌, length, map}
use Rattle.std.specs.List.{flat_map}
use Rattle.sheet_members.specs.Occurrences.{pair_of}
use Rattle.sheet_members.proofs.laying.push_decls.Given as goal

-- what was put, and what is left to put
abbrev pub invariant-decls : goal.invariant-decls
invariant-decls l = l.found.items ++ flat_map (λ d. map (pair_of l.layer l.item d) l.selectors) l.rest
    ≡ l.fn.found.items ++ flat_map (λ d. map (pair_of l.layer l.item d) l.selectors) l.fn.decls

abbrev pub decreases-decls : goal.decreases-decls
decreases-decls l = length l.rest
