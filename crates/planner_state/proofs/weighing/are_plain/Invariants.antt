use Rattle.std.proofs.Common.{◌≤◌, length}
use Rattle.std.specs.List.{AllByRecursion}
use Rattle.css_model.specs.Sheets.Limits.{max_bytes}
use Rattle.css_model.specs.Sheets.Printed.{printed_declaration}
use Rattle.css_model.specs.Sheets.Sound.{IsSoundDeclaration}
use Rattle.planner_state.proofs.weighing.are_plain.Given as goal
use Rattle.step_laws.specs.Sizes.{weight}
use Rattle.step_queue.specs.RuleWeights.{ArePlain}

-- all are plain if the rest is
abbrev pub invariant-rest : goal.invariant-rest
invariant-rest l = record {
  sound : AllByRecursion (IsSoundDeclaration l.source) l.rest;
  small : weight (printed_declaration l.source) l.rest ≤ max_bytes;
  plain : ArePlain l.source l.rest → ArePlain l.source l.decls;
}

abbrev pub decreases-rest : goal.decreases-rest
decreases-rest l = length l.rest
