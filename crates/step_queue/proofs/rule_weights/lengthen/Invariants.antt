use Rattle.std.proofs.Common.{◌≡◌, ◌-◌, ℕ, length}
use Rattle.step_queue.proofs.rule_weights.lengthen.Given as goal
use Rattle.step_queue.specs.RuleWeights.{weight_under}

-- what is known of each rule stays
abbrev pub invariant-loop-each : goal.invariant-loop-each
invariant-loop-each l = (b : ℕ) → weight_under l.each.items b ≡ weight_under l.fn.each.items b

abbrev pub decreases-loop-each : goal.decreases-loop-each
decreases-loop-each l = l.count - length l.each.items
