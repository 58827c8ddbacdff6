-- Masks of items (own), of two kinds of bits: of the families of declarations, and of selectors. An item in which a
-- pair stands has bits of both kinds in common with the pair.
use Rattle.std.specs.Prelude.{ℕ, ◌^◌, ◌%◌, Bool, not, ◌&&◌, ◌==◌, List, [], ◌∷◌, bit_and, bit_or}
use Rattle.css_model.specs.declared.sheet.Item.{Item}
use Rattle.css_model.specs.declared.sheet.Item.TheVariants.{Rule, KeptRule, KeptBlock}
use Rattle.css_model.specs.declared.sheet.SelItem.{SelItem}
use Rattle.css_model.specs.Cascade.Order.{Pair}
use Rattle.css_model.specs.Documents.SelectorParts.{SelectorParts}
use Rattle.item_masks.specs.declared.mask.ItemMask.{ItemMask}
use Rattle.related_props.specs.Masks as families
use Rattle.rule_tables.specs.Digests.{selector_digest}

-- one bit of 64, by the digest
abbrev pub selector_mask : SelectorParts → ℕ
selector_mask s = 2 ^ (selector_digest s % 64)

-- a mask with those of selectors put to it
abbrev pub with_selectors : ℕ → List SelItem → ℕ
with_selectors mask [] = mask
with_selectors mask (x ∷ xs) = with_selectors (bit_or mask (selector_mask x.selector)) xs

-- the bits of the selectors of a rule; in kept items no pair stands
abbrev pub selectors_in : Item → ℕ
selectors_in (Rule r) = with_selectors 0 r.selectors
selectors_in (KeptRule k) = 0
selectors_in (KeptBlock piece) = 0

abbrev pub item_mask : Item → ItemMask
item_mask item = record { families = families.item_mask item; selectors = selectors_in item }

abbrev pub pair_mask : Pair → ItemMask
pair_mask p = record { families = families.decl_mask p.decl; selectors = selector_mask p.selector }

-- two masks have bits of both kinds in common
abbrev pub meets : ItemMask → ItemMask → Bool
meets m n = not (bit_and m.families n.families == 0) && not (bit_and m.selectors n.selectors == 0)
