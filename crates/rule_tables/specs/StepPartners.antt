-- That tables find both rules of a step (own).
use Rattle.std.specs.Prelude.{◌≡◌, ℕ, ◌<◌, List, Some, length, slice_get}
use Rattle.std.specs.List.{Contains}
use Rattle.css_model.specs.declared.sheet.Item.{Item}
use Rattle.css_model.specs.declared.sheet.Item.TheVariants.{Rule}
use Rattle.css_model.specs.Sheets.RuleParts.{RuleParts}
use Rattle.order_laws.specs.Edits.{Edit}
use Rattle.rule_tables.specs.Tables.{CanBePartners, order_keyed, with_order_key}
use Rattle.step_laws.specs.declared.step.Step.{Step}
use Rattle.step_laws.specs.Steps.{IsStep, first_item, last_item}

-- a rule has a selector and a declaration
abbrev pub HasParts : RuleParts → Type 0
HasParts r = (0 < length r.selectors) × (0 < length r.decls)

-- The rules of a step of two rules can be partners, each of the other one.
abbrev pub StepsHavePartners : Type 0
StepsHavePartners = (items : List Item) (k : Step) (e : Edit) (upper lower : RuleParts) → IsStep items k e → first_item k < last_item k →
    slice_get items (first_item k) ≡ Some (Rule upper) → slice_get items (last_item k) ≡ Some (Rule lower) → HasParts upper →
    CanBePartners upper lower × CanBePartners lower upper

-- A rule among items is one of the rules with order keys, with the order key of its item.
abbrev pub RulesAreOrderKeyed : Type 0
RulesAreOrderKeyed = (items : List Item) (order_keys : List ℕ) (n : ℕ) (r : RuleParts) (order_key : ℕ) → slice_get items n ≡ Some (Rule r) → slice_get order_keys n ≡ Some order_key →
    Contains (order_keyed items order_keys) (with_order_key r order_key)

-- And each rule with its order key is one of them.
abbrev pub OrderKeyedRulesStand : Type 0
OrderKeyedRulesStand = (items : List Item) (order_keys : List ℕ) (r : RuleParts) (order_key : ℕ) → Contains (order_keyed items order_keys) (with_order_key r order_key) →
    (n : ℕ) × (slice_get items n ≡ Some (Rule r)) × (slice_get order_keys n ≡ Some order_key)
