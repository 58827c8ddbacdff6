use Rattle.std.proofs.Common.{length, ◌+◌, ◌≡◌}
use Rattle.repeat_runs.proofs.OneRule.{ArePassed}
use Rattle.repeat_runs.proofs.finding.only_rule.Given as goal

-- no item before the rest is a rule
abbrev pub invariant-rest : goal.invariant-rest
invariant-rest l = record {
  passed : ArePassed l.items l.number l.rest;
  size : l.number + length l.rest ≡ length l.items;
}

abbrev pub decreases-rest : goal.decreases-rest
decreases-rest l = length l.rest
