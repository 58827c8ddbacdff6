use Rattle.std.proofs.Common.{◌≤◌, length}
use Rattle.std.specs.HashMap.{get}
use Rattle.std.specs.List.{AllByRecursion}
use Rattle.css_model.specs.declared.sheet.DeclItem.{DeclItem}
use Rattle.css_model.proofs.ForCallers.{decl_decides}
use Rattle.css_model.specs.Sheets.Limits.{max_bytes}
use Rattle.css_model.specs.Sheets.Printed.{printed_declaration}
use Rattle.css_model.specs.Sheets.Sound.{IsSoundDeclaration}
use Rattle.order_laws.specs.Members.{same_decl}
use Rattle.repeat_runs.proofs.Marking.{IsMarkedBack}
use Rattle.repeat_runs.proofs.marks.decl_marks_back.Given as goal
use Rattle.run_laws.specs.Runs.{decl_weight}
use Rattle.step_laws.specs.Sizes.{weight}

-- those after the rest are marked
abbrev pub invariant-rest : goal.invariant-rest
invariant-rest l = record {
  marked : IsMarkedBack same_decl decl_decides (λ (x : DeclItem). x.decl) (decl_weight l.lengths) l.decls l.rest l.marks.items (λ q. get same_decl l.seen q);
  sound : AllByRecursion (IsSoundDeclaration l.lengths) l.rest;
  small : weight (printed_declaration l.lengths) l.rest ≤ max_bytes;
}

abbrev pub decreases-rest : goal.decreases-rest
decreases-rest l = length l.rest
