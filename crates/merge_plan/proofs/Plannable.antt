-- The sheet that a plan leads to.
use Rattle.std.proofs.Common.{◌≡◌, ◌≤◌, ◌+◌, ℕ, List, arith}
use Rattle.css_model.specs.declared.sheet.Item.{Item}
use Rattle.merge_laws.proofs.ForCallers.{leads_shorter}
use Rattle.merge_laws.specs.Merged.{LeadingMakesOf}
use Rattle.plan_laws.specs.Plannable.{IsPlannable}
use Rattle.step_laws.specs.Free.{Answered}
use Rattle.step_laws.specs.Leading.{Leads}
use Rattle.step_laws.specs.Left.{IsMadeOf}

-- it can be planned
pub still_plannable : LeadingMakesOf → (answers : List Answered) (source : List ℕ) (steps : ℕ) (old new : List Item) → IsPlannable source old → Leads answers source steps old new → IsPlannable source new
still_plannable law answers source steps old new plannable leads =
    let made : IsMadeOf source old new = law answers source steps old new plannable.sound plannable.few_items leads in
    let shorter = leads_shorter answers source steps old new leads in
    let short = plannable.short in
    record { read = plannable.read; sound = made.sound; few_items = made.few_items; short = omega (arith, shorter, short) }
