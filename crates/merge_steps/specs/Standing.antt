-- Whether a pair stands in a sheet, as a test that computes.
use Rattle.std.specs.Prelude.{ℕ, ◌+◌, Bool, false, ◌&&◌, ◌||◌, List, take, drop}
use Rattle.std.specs.List.{list_all, list_any}
use Rattle.css_model.specs.Cascade.Order.{Pair}
use Rattle.css_model.specs.declared.sheet.Decl.{Decl}
use Rattle.css_model.specs.declared.sheet.DeclItem.{DeclItem}
use Rattle.css_model.specs.declared.sheet.Item.{Item}
use Rattle.css_model.specs.declared.sheet.Item.TheVariants.{Rule, KeptRule, KeptBlock}
use Rattle.css_model.specs.declared.sheet.SelItem.{SelItem}
use Rattle.css_model.specs.Documents.SelectorParts.{SelectorParts}
use Rattle.css_model.specs.Sheets.RuleParts.{RuleParts}
use Rattle.order_laws.specs.Members.{has_selector, has_decl}

-- an item is a rule with this pair
abbrev pub is_in_item : Pair → Item → Bool
is_in_item p (Rule r) = has_selector r.selectors p.selector && has_decl r.decls p.decl
is_in_item p (KeptRule k) = false
is_in_item p (KeptBlock piece) = false

-- a pair stands in one of the items
abbrev pub stands : List Item → Pair → Bool
stands items p = list_any (is_in_item p) items

-- a pair stands above or below
abbrev pub stands_beside : List Item → List Item → Pair → Bool
stands_beside above below p = stands above p || stands below p

-- a declaration, or a selector, stands in a list beside the one of this number
abbrev pub is_decl_again : List DeclItem → ℕ → Decl → Bool
is_decl_again decls number d = has_decl (take number decls) d || has_decl (drop (number + 1) decls) d

abbrev pub is_selector_again : List SelItem → ℕ → SelectorParts → Bool
is_selector_again selectors number s = has_selector (take number selectors) s || has_selector (drop (number + 1) selectors) s

-- The pairs of this declaration of the rule of number `n` all stand beside it too: it stands in the rule
-- again, or each stands in another item.
abbrev pub is_decl_elsewhere : List Item → ℕ → RuleParts → ℕ → Decl → Bool
is_decl_elsewhere items n r i d =
    is_decl_again r.decls i d
    || list_all (λ s. stands_beside (take n items) (drop (n + 1) items) (record { selector = s.selector; decl = d })) r.selectors

-- and those of this selector
abbrev pub is_selector_elsewhere : List Item → ℕ → RuleParts → ℕ → SelectorParts → Bool
is_selector_elsewhere items n r i s =
    is_selector_again r.selectors i s
    || list_all (λ d. stands_beside (take n items) (drop (n + 1) items) (record { selector = s; decl = d.decl })) r.decls
