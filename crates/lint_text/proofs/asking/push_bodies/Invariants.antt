use Rattle.std.proofs.Common.{◌≡◌, ◌++◌, length}
use Rattle.std.specs.List.{flat_map}
use Rattle.lint_text.specs.Asking.{selectors_in}
use Rattle.lint_text.proofs.asking.push_bodies.Given as goal

-- what was put, and what is left to put
abbrev pub invariant-bodies : goal.invariant-bodies
invariant-bodies l = l.found.items ++ flat_map (λ m. flat_map selectors_in m.sheet.items) l.rest ≡ l.fn.found.items ++ flat_map (λ m. flat_map selectors_in m.sheet.items) l.fn.media

abbrev pub decreases-bodies : goal.decreases-bodies
decreases-bodies l = length l.rest
