use Rattle.std.proofs.Common.{◌≡◌, ◌+◌, ◌≤◌, length}
use Rattle.std.specs.List.{AllByRecursion}
use Rattle.css_model.specs.Sheets.Limits.{max_bytes}
use Rattle.css_model.specs.Sheets.Printed.{printed_declaration}
use Rattle.css_model.specs.Sheets.Sound.{IsSoundDeclaration}
use Rattle.rule_parts.proofs.weights.last_common_weight.Given as goal
use Rattle.rule_parts.specs.LastCommon.{last_common}
use Rattle.step_laws.specs.Sizes.{weight}

-- what is counted, and what is left
abbrev pub invariant-rest : goal.invariant-rest
invariant-rest g l = record {
  counted : l.total + weight (printed_declaration (g.L.Lengths.source l.lengths)) (last_common l.others l.rest) ≡ weight (printed_declaration (g.L.Lengths.source l.lengths)) (last_common l.others l.initial.rest);
  sound : AllByRecursion (IsSoundDeclaration (g.L.Lengths.source l.lengths)) l.rest;
  small : l.total + weight (printed_declaration (g.L.Lengths.source l.lengths)) l.rest ≤ max_bytes;
}

abbrev pub decreases-rest : goal.decreases-rest
decreases-rest g l = length l.rest
