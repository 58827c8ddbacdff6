-- Sheets with one rule (own).
use Rattle.std.specs.Prelude.{◌≡◌, ℕ, List, length}
use Rattle.css_model.specs.declared.sheet.Item.{Item}
use Rattle.css_model.specs.Sheets.RuleParts.{RuleParts}
use Rattle.run_laws.specs.Runs.{AreKept, with_rule}

-- the item of this number is a rule, and no other item is
pub record IsOnlyRule (items : List Item) (number : ℕ) : Type 0 where
  pub before : List Item
  pub rule : RuleParts
  pub after : List Item
  pub split : items ≡ with_rule before after rule
  pub place : length before ≡ number
  pub kept_before : AreKept before
  pub kept_after : AreKept after

-- the items have no rule, or more than one
abbrev pub HasNoOnlyRule : List Item → Type 0
HasNoOnlyRule items = (before after : List Item) (r : RuleParts) → items ≡ with_rule before after r → AreKept before → AreKept after → ⊥
