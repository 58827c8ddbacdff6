use Rattle.std.proofs.Common.{◌≤◌, length}
use Rattle.std.specs.HashMap.{get}
use Rattle.std.specs.List.{AllByRecursion}
use Rattle.css_model.specs.declared.sheet.SelItem.{SelItem}
use Rattle.css_model.proofs.ForCallers.{selector_decides}
use Rattle.css_model.specs.Sheets.Limits.{max_bytes}
use Rattle.css_model.specs.Sheets.Printed.{printed_selector}
use Rattle.css_model.specs.Sheets.Sound.{IsSoundSelector}
use Rattle.order_laws.specs.Members.{same_selector}
use Rattle.repeat_runs.proofs.Marking.{IsMarkedBack}
use Rattle.repeat_runs.proofs.marks.selector_marks_back.Given as goal
use Rattle.run_laws.specs.Runs.{selector_weight}
use Rattle.step_laws.specs.Sizes.{weight}

-- those after the rest are marked
abbrev pub invariant-rest : goal.invariant-rest
invariant-rest l = record {
  marked : IsMarkedBack same_selector selector_decides (λ (x : SelItem). x.selector) (selector_weight l.lengths) l.selectors l.rest l.marks.items (λ q. get same_selector l.seen q);
  sound : AllByRecursion (IsSoundSelector l.lengths) l.rest;
  small : weight (printed_selector l.lengths) l.rest ≤ max_bytes;
}

abbrev pub decreases-rest : goal.decreases-rest
decreases-rest l = length l.rest
