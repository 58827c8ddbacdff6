-- What stands in the place of an item after a step, by parts of rules of the sheet (own).
use Rattle.std.specs.Prelude.{◌≡◌, true, not, List, [], ◌∷◌, ◌++◌, Option, Some, None}
use Rattle.std.specs.List.{filter}
use Rattle.css_model.specs.Cascade.Order.{Pair, HasPair}
use Rattle.css_model.specs.declared.sheet.DeclItem.{DeclItem}
use Rattle.css_model.specs.declared.sheet.Item.{Item}
use Rattle.css_model.specs.declared.sheet.Item.TheVariants.{Rule}
use Rattle.css_model.specs.declared.sheet.SelItem.{SelItem}
use Rattle.css_model.specs.Sheets.RuleParts.{RuleParts}
use Rattle.item_masks.specs.Masks.{meets, pair_mask}
use Rattle.item_masks.specs.declared.mask.ItemMask.{ItemMask}
use Rattle.order_laws.specs.Members.{has_decl, has_selector}
use Rattle.step_laws.specs.RuleParting.{each_last, rule_or_none}
use Rattle.window_order.specs.declared.left.Left.{Left}
use Rattle.window_order.specs.declared.left.LeftDecls.{LeftDecls}
use Rattle.window_order.specs.declared.left.LeftDecls.TheVariants as decls
use Rattle.window_order.specs.declared.left.LeftRule.{LeftRule}
use Rattle.window_order.specs.declared.left.LeftSelectors.{LeftSelectors}
use Rattle.window_order.specs.declared.left.LeftSelectors.TheVariants as selectors

-- ---- The lists that parts stand for

abbrev pub selectors_of : LeftSelectors → List SelItem
selectors_of (selectors.All list) = list.now
selectors_of (selectors.Both first second) = first.now ++ second.now
selectors_of (selectors.Joined first second) = first.now ++ filter (λ s. not (has_selector first.now s.selector)) second.now

abbrev pub decls_of : LeftDecls → List DeclItem
decls_of (decls.All list) = list.now
decls_of (decls.Both first second) = first.now ++ second.now
decls_of (decls.Common list others) = each_last (filter (λ d. has_decl others.now d.decl) list.now)
decls_of (decls.Others list others) = filter (λ d. not (has_decl others.now d.decl)) list.now

-- ---- The rules

abbrev pub rule_of : LeftRule → RuleParts
rule_of r = record { selectors = selectors_of r.selectors; decls = decls_of r.decls }

abbrev pub made_of : Option LeftRule → List Item
made_of (Some r) = Rule (rule_of r) ∷ []
made_of None = []

abbrev pub rest_of : Option LeftRule → List Item
rest_of (Some r) = rule_or_none (rule_of r)
rest_of None = []

-- in order
abbrev pub items_of : Left → List Item
items_of l = made_of l.made ++ rest_of l.rest

-- a mask meets those of all pairs that stand in some items
abbrev pub Covers : ItemMask → List Item → Type 0
Covers mask items = (p : Pair) → HasPair items p → meets mask (pair_mask p) ≡ true
