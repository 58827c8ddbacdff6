-- A style rule apart from where it stands in a source, and the style rules of a sheet.
use Rattle.std.specs.Prelude.{List, [], ◌∷◌, map, ◌++◌, Contains, ◌↔◌}
use Rattle.css_model.specs.declared.sheet.Decl.{Decl}
use Rattle.css_model.specs.declared.sheet.Item.{Item}
use Rattle.css_model.specs.declared.sheet.Item.TheVariants.{Rule, KeptRule, KeptBlock}
use Rattle.css_model.specs.Sheets.RuleParts.{RuleParts}
use Rattle.css_model.specs.Documents.SelectorParts.{SelectorParts}

-- its selectors and its declarations, in order
pub record StyleRule : Type 0 where
  pub selectors : List SelectorParts
  pub decls : List Decl

-- the selectors of a rule, in order
abbrev pub selectors_of : RuleParts → List SelectorParts
selectors_of r = map (λ s. s.selector) r.selectors

-- a rule without its places
abbrev pub style_rule : RuleParts → StyleRule
style_rule r = record { selectors = selectors_of r; decls = map (λ d. d.decl) r.decls }

-- The style rules among the items of a sheet, in order. Kept items are left out: with them, equal style
-- rules do not make equal sheets.
abbrev pub style_rules : List Item → List StyleRule
style_rules [] = []
style_rules ((Rule r) ∷ items) = style_rule r ∷ style_rules items
style_rules ((KeptRule k) ∷ items) = style_rules items
style_rules ((KeptBlock piece) ∷ items) = style_rules items

-- two rules as one: the selectors of the upper one, and the declarations of both
abbrev pub joined : RuleParts → RuleParts → RuleParts
joined upper lower = record { selectors = upper.selectors; decls = upper.decls ++ lower.decls }

-- two rules have the same selectors, in whatever order and however often
abbrev pub HaveSameSelectors : RuleParts → RuleParts → Type 0
HaveSameSelectors r q = (s : SelectorParts) → Contains (selectors_of r) s ↔ Contains (selectors_of q) s
