use Rattle.std.proofs.Common.{◌≡◌, ◌≤◌, ◌-◌, ℕ, length}
use Rattle.indexed_sheet.proofs.facts.lengthen.Given as goal
use Rattle.indexed_sheet.specs.Facts.{facts_under}

-- what is known stays
abbrev pub invariant-loop-facts : goal.invariant-loop-facts
invariant-loop-facts l = record {
  same : (b : ℕ) → facts_under l.facts.items b ≡ facts_under l.fn.facts.items b;
  few : (n : ℕ) → length l.fn.facts.items ≤ n → l.count ≤ n → length l.facts.items ≤ n;
}

abbrev pub decreases-loop-facts : goal.decreases-loop-facts
decreases-loop-facts l = l.count - length l.facts.items
