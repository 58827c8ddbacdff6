-- Pairs of a selector and a declaration that stand in other rules too (own).
use Rattle.std.specs.Prelude.{ℕ, ◌≢◌, List}
use Rattle.std.specs.List.{Contains}
use Rattle.css_model.specs.declared.sheet.Decl.{Decl}
use Rattle.css_model.specs.Documents.SelectorParts.{SelectorParts}
use Rattle.css_model.specs.Sheets.RuleParts.{RuleParts}
use Rattle.css_model.specs.Sheets.StyleRule.{selectors_of}
use Rattle.rule_tables.specs.Tables.{OrderKeyed, with_order_key}
use Rattle.step_laws.specs.Steps.{decls_of}

-- a rule has a selector and a declaration
abbrev pub HasBoth : RuleParts → SelectorParts → Decl → Type 0
HasBoth r s d = Contains (selectors_of r) s × Contains (decls_of r) d

-- the rule with this order key has both
abbrev pub OrderKeyHasBoth : List OrderKeyed → ℕ → SelectorParts → Decl → Type 0
OrderKeyHasBoth rules order_key s d = (r : RuleParts) × Contains rules (with_order_key r order_key) × HasBoth r s d

-- a rule with another order key has both
abbrev pub AnotherHasBoth : List OrderKeyed → ℕ → SelectorParts → Decl → Type 0
AnotherHasBoth rules own s d = (order_key : ℕ) × (order_key ≢ own) × OrderKeyHasBoth rules order_key s d
