use Rattle.std.proofs.Common.{◌≡◌, ◌++◌, length}
use Rattle.std.specs.List.{flat_map}
use Rattle.lint_text.specs.Asking.{selectors_in}
use Rattle.lint_text.proofs.asking.push_items.Given as goal

-- what was put, and what is left to put
abbrev pub invariant-items : goal.invariant-items
invariant-items l = l.found.items ++ flat_map selectors_in l.rest ≡ l.fn.found.items ++ flat_map selectors_in l.fn.items

abbrev pub decreases-items : goal.decreases-items
decreases-items l = length l.rest
