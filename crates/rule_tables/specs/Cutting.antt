-- When parts of a rule can be cut, by the pairs of the other rules (own).
use Rattle.std.specs.Prelude.{◌≡◌, ◌↔◌, ℕ, List, Some, length, slice_get}
use Rattle.css_model.specs.declared.sheet.Item.{Item}
use Rattle.css_model.specs.declared.sheet.Item.TheVariants.{Rule}
use Rattle.css_model.specs.Sheets.RuleParts.{RuleParts}
use Rattle.rule_tables.specs.Losing.{CanLoseDecl, CanLoseSelector}
use Rattle.rule_tables.specs.Tables.{order_keyed}
use Rattle.step_laws.specs.declared.step.Step.TheVariants.{CutDecl, CutSel}
use Rattle.step_laws.specs.Steps.{HasStep}

-- one order key for each item, no two alike
pub record AreTold (items : List Item) (order_keys : List ℕ) : Type 0 where
  pub beside : length order_keys ≡ length items
  pub once : (i j order_key : ℕ) → slice_get order_keys i ≡ Some order_key → slice_get order_keys j ≡ Some order_key → i ≡ j

-- A declaration of a rule can be cut exactly where the rule can lose it.
abbrev pub DeclCutsAreTold : Type 0
DeclCutsAreTold = (items : List Item) (order_keys : List ℕ) (n own i : ℕ) (r : RuleParts) → AreTold items order_keys →
    slice_get items n ≡ Some (Rule r) → slice_get order_keys n ≡ Some own → HasStep items (CutDecl n i) ↔ CanLoseDecl (order_keyed items order_keys) own r i

-- And so a selector.
abbrev pub SelectorCutsAreTold : Type 0
SelectorCutsAreTold = (items : List Item) (order_keys : List ℕ) (n own i : ℕ) (r : RuleParts) → AreTold items order_keys →
    slice_get items n ≡ Some (Rule r) → slice_get order_keys n ≡ Some own → HasStep items (CutSel n i) ↔ CanLoseSelector (order_keyed items order_keys) own r i
