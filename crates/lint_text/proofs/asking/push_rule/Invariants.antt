use Rattle.std.proofs.Common.{◌≡◌, ◌++◌, length, map}
use Rattle.lint_text.proofs.asking.push_rule.Given as goal

-- what was put, and what is left to put
abbrev pub invariant-selectors : goal.invariant-selectors
invariant-selectors l = l.found.items ++ map (λ s. s.selector) l.rest ≡ l.fn.found.items ++ map (λ s. s.selector) l.fn.selectors

abbrev pub decreases-selectors : goal.decreases-selectors
decreases-selectors l = length l.rest
