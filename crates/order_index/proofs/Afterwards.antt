-- The edit of a step of a sheet.
use Rattle.std.proofs.Common.{◌≡◌, List, Some, sym, ap₂, ◌∙◌, subst}
use Rattle.std.specs.Prelude.{slice_get}
use Rattle.css_model.specs.declared.sheet.Item.{Item}
use Rattle.css_model.specs.declared.sheet.Item.TheVariants.{Rule}
use Rattle.css_model.specs.Sheets.RuleParts.{RuleParts}
use Rattle.order_index.specs.Afterwards.{edit_at, edit_by}
use Rattle.order_laws.specs.Edits.{Edit}
use Rattle.step_laws.specs.declared.step.Step.{Step}
use Rattle.step_laws.specs.Steps.{HasStep, IsStep, first_item, last_item}
use Rattle.step_savings.proofs.ForCallers.{first_rule, last_rule, edit_is}

pub edit_stands : (items : List Item) (k : Step) (e : Edit) → IsStep items k e → edit_at items k ≡ e
edit_stands items k e is =
    let u : (r : RuleParts) × (slice_get items (first_item k) ≡ Some (Rule r)) = first_rule items k (e, is) in
    let l : (r : RuleParts) × (slice_get items (last_item k) ≡ Some (Rule r)) = last_rule items k (e, is) in
    ap₂ (edit_by k) u.1 l.1 ∙ edit_is items k u.0 l.0 u.1 l.1 e is

pub step_at : (items : List Item) (k : Step) → HasStep items k → IsStep items k (edit_at items k)
step_at items k has = subst (IsStep items k) (sym (edit_stands items k has.0 has.1)) has.1
