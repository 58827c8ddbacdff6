use Rattle.std.proofs.Common.{◌≡◌, ◌+◌, ◌≤◌, length}
use Rattle.std.specs.List.{AllByRecursion}
use Rattle.css_model.specs.Sheets.Limits.{max_bytes}
use Rattle.css_model.specs.Sheets.Printed.{printed_declaration}
use Rattle.css_model.specs.Sheets.Sound.{IsSoundDeclaration}
use Rattle.step_laws.specs.Sizes.{weight}
use Rattle.next_step.proofs.by_declarations.shares.weight_above.Given as goal
use Rattle.next_step.specs.Shares.{among_weight}

-- those that are left are counted whole
abbrev pub invariant-rest : goal.invariant-rest
invariant-rest l = record {
  counted : among_weight l.source l.items l.others + l.more + weight (printed_declaration l.source) l.rest ≡ l.most + among_weight l.source l.rest l.others;
  sound : AllByRecursion (IsSoundDeclaration l.source) l.rest;
  small : weight (printed_declaration l.source) l.rest ≤ max_bytes;
  few : l.most ≤ max_bytes + max_bytes;
}

abbrev pub decreases-rest : goal.decreases-rest
decreases-rest l = length l.rest
