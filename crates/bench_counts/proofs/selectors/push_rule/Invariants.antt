use Rattle.std.proofs.Common.{◌≡◌, ◌++◌, take, map}
use Rattle.bench_counts.proofs.selectors.push_rule.Given as goal

-- the first selectors were put
abbrev pub invariant-loop-one : goal.invariant-loop-one
invariant-loop-one l = l.found.items ≡ l.fn.found.items ++ map (λ s. s.selector) (take l.one-index l.selectors)
