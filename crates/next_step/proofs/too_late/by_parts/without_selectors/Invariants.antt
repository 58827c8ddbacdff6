use Rattle.std.proofs.Common.{◌≡◌, ◌+◌, ◌≤◌, length}
use Rattle.std.specs.List.{AllByRecursion}
use Rattle.css_model.specs.Sheets.Limits.{max_bytes}
use Rattle.css_model.specs.Sheets.Printed.{printed_selector}
use Rattle.css_model.specs.Sheets.Sound.{IsSoundSelector}
use Rattle.step_laws.specs.Sizes.{weight}
use Rattle.next_step.proofs.too_late.by_parts.without_selectors.Given as goal

-- what is left of the number, and of the parts
abbrev pub invariant-rest : goal.invariant-rest
invariant-rest l = record {
  counted : l.left + weight (printed_selector l.source) l.initial.rest ≡ l.most + weight (printed_selector l.source) l.rest;
  sound : AllByRecursion (IsSoundSelector l.source) l.rest;
  small : weight (printed_selector l.source) l.rest ≤ max_bytes;
}

abbrev pub decreases-rest : goal.decreases-rest
decreases-rest l = length l.rest
