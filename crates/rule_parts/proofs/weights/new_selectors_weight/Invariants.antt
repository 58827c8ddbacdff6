use Rattle.std.proofs.Common.{◌≡◌, ◌+◌, ◌≤◌, not, length}
use Rattle.std.specs.List.{AllByRecursion, filter}
use Rattle.css_model.specs.Sheets.Limits.{max_bytes}
use Rattle.css_model.specs.Sheets.Printed.{printed_selector}
use Rattle.css_model.specs.Sheets.Sound.{IsSoundSelector}
use Rattle.rule_parts.proofs.weights.new_selectors_weight.Given as goal
use Rattle.order_laws.specs.Members as members
use Rattle.step_laws.specs.Sizes.{weight}

-- what is counted, and what is left
abbrev pub invariant-rest : goal.invariant-rest
invariant-rest g l = record {
  counted : l.total + weight (printed_selector (g.L.Lengths.source l.lengths)) (filter (λ s. not (members.has_selector l.others s.selector)) l.rest) ≡ weight (printed_selector (g.L.Lengths.source l.lengths)) (filter (λ s. not (members.has_selector l.others s.selector)) l.initial.rest);
  sound : AllByRecursion (IsSoundSelector (g.L.Lengths.source l.lengths)) l.rest;
  small : l.total + weight (printed_selector (g.L.Lengths.source l.lengths)) l.rest ≤ max_bytes;
}

abbrev pub decreases-rest : goal.decreases-rest
decreases-rest g l = length l.rest
