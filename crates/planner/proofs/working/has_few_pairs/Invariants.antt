use Rattle.std.proofs.Common.{◌≡◌, ◌+◌, ◌≤◌, length}
use Rattle.css_model.specs.declared.limits.TheConstants.{MAX_PAIRS}
use Rattle.css_model.specs.Sheets.ComesFrom.{pair_count}
use Rattle.planner.proofs.working.has_few_pairs.Given as goal

-- the pairs so far are few, and those that are left come to them
abbrev pub invariant-items : goal.invariant-items
invariant-items l = record {
  all : l.pairs + pair_count l.rest ≡ pair_count l.items;
  few : l.pairs ≤ MAX_PAIRS;
}

abbrev pub decreases-items : goal.decreases-items
decreases-items l = length l.rest
