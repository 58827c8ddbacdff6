-- How much the rules of a sheet weigh at most (own).
use Rattle.std.specs.Prelude.{◌≡◌, ◌≤◌, ℕ, List, Some, slice_get}
use Rattle.css_model.specs.declared.sheet.Item.{Item}
use Rattle.css_model.specs.declared.sheet.Item.TheVariants.{Rule}
use Rattle.css_model.specs.Sheets.Printed.{printed_declaration, printed_selector}
use Rattle.css_model.specs.Sheets.RuleParts.{RuleParts}
use Rattle.step_queue.specs.declared.heaviest.Heaviest.{Heaviest}
use Rattle.step_laws.specs.Sizes.{weight}

-- no rule among items weighs more than this
abbrev pub AreNotHeavier : List ℕ → List Item → Heaviest → Type 0
AreNotHeavier source items h = (n : ℕ) (r : RuleParts) → slice_get items n ≡ Some (Rule r) → (weight (printed_selector source) r.selectors ≤ h.selectors) × (weight (printed_declaration source) r.decls ≤ h.decls)
