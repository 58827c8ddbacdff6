use Rattle.std.proofs.Common.{◌≡◌, ◌+◌, ◌≤◌, ◌++◌, length, map}
use Rattle.std.specs.List.{AllByRecursion}
use Rattle.css_model.specs.Sheets.Limits.{max_bytes}
use Rattle.css_model.specs.Sheets.Printed.{printed_declaration}
use Rattle.css_model.specs.Sheets.Sound.{IsSoundDeclaration}
use Rattle.step_laws.specs.Sizes.{weight}
use Rattle.next_step.proofs.next.passes.decl_weights.Given as goal

-- those that are left are weighed next
abbrev pub invariant-rest : goal.invariant-rest
invariant-rest l = record {
  done : l.weights.items ++ map (λ d. length (printed_declaration l.source d) + 1) l.rest ≡ map (λ d. length (printed_declaration l.source d) + 1) l.decls;
  sound : AllByRecursion (IsSoundDeclaration l.source) l.rest;
  small : weight (printed_declaration l.source) l.rest ≤ max_bytes;
}

abbrev pub decreases-rest : goal.decreases-rest
decreases-rest l = length l.rest
