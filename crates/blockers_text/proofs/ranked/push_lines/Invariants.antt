use Rattle.std.proofs.Common.{◌≡◌, ◌++◌, length}
use Rattle.std.specs.List.{flat_map}
use Rattle.blockers_text.proofs.ranked.push_lines.Given as goal

-- what was written, and the lines that are left
abbrev pub invariant-items : goal.invariant-items
invariant-items l = l.out.items ++ flat_map (λ r. r.lines) l.rest ≡ l.fn.out.items ++ flat_map (λ r. r.lines) l.fn.items

abbrev pub decreases-items : goal.decreases-items
decreases-items l = length l.rest
