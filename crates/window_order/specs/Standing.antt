-- Whether pairs stand in items, and which comes last before which in an item, as tests that compute (own).
use Rattle.std.specs.Prelude.{ℕ, Bool, false, not, ◌&&◌, if◌then◌else◌, List, [], ◌∷◌, bit_or}
use Rattle.std.specs.List.{list_any}
use Rattle.css_model.specs.Cascade.Order.{Pair}
use Rattle.css_model.specs.declared.sheet.Decl.{Decl}
use Rattle.css_model.specs.declared.sheet.DeclItem.{DeclItem}
use Rattle.css_model.specs.declared.sheet.Item.{Item}
use Rattle.css_model.specs.declared.sheet.Item.TheVariants.{Rule, KeptRule, KeptBlock}
use Rattle.css_model.specs.Sheets.RuleParts.{RuleParts}
use Rattle.item_masks.specs.Masks.{meets}
use Rattle.item_masks.specs.declared.mask.ItemMask.{ItemMask}
use Rattle.order_laws.specs.Members.{same_decl, has_selector, has_decl}

-- a pair stands in a rule
abbrev pub is_in_rule : RuleParts → Pair → Bool
is_in_rule r p = has_decl r.decls p.decl && has_selector r.selectors p.selector

-- a pair stands in an item
abbrev pub is_in_item : Pair → Item → Bool
is_in_item p (Rule r) = is_in_rule r p
is_in_item p (KeptRule k) = false
is_in_item p (KeptBlock piece) = false

-- by masks of the pair and of the item
abbrev pub is_in_masked : ItemMask → Pair → Item → ItemMask → Bool
is_in_masked mask p item of_item = meets of_item mask && is_in_item p item

-- some bits, with those of the selectors of masks
abbrev pub with_bits : ℕ → List ItemMask → ℕ
with_bits bits [] = bits
with_bits bits (m ∷ ms) = with_bits (bit_or bits m.selectors) ms

-- a pair stands in one of the items
abbrev pub stands : List Item → Pair → Bool
stands items p = list_any (is_in_item p) items

-- the last of a declaration stands before the last of another one
abbrev pub decl_before : List DeclItem → Decl → Decl → Bool
decl_before [] d f = false
decl_before (x ∷ xs) d f = if same_decl x.decl d && not (has_decl xs d) then has_decl xs f else decl_before xs d f

-- two pairs stand in a rule, the last of the first before the last of the second
abbrev pub rule_before : RuleParts → Pair → Pair → Bool
rule_before r p q = is_in_rule r p && (is_in_rule r q && decl_before r.decls p.decl q.decl)
