-- What masks tell, for callers.
use Rattle.std.proofs.Common.{◌≡◌, ℕ, List}
use Rattle.std.specs.Prelude.{bit_and}
use Rattle.std.specs.List.{Contains}
use Rattle.css_model.specs.declared.sheet.Decl.{Decl}
use Rattle.css_model.specs.declared.sheet.DeclItem.{DeclItem}
use Rattle.css_model.specs.declared.sheet.Item.{Item}
use Rattle.css_model.specs.declared.sheet.Item.TheVariants.{Rule, KeptRule, KeptBlock}
use Rattle.css_model.specs.Cascade.Family.{Related, family_of}
use Rattle.css_model.specs.Cascade.Order.{Pair, WeighsKept}
use Rattle.css_model.specs.Sheets.RuleParts.{RuleParts}
use Rattle.related_props.proofs.MaskBits.{common_shows, decls_put, has_bit, in_both, items_put, related_families_meet}
use Rattle.related_props.specs.Masks.{HaveCommon, IsWithin, all_bits, decl_mask, item_mask, with_items}

pub related_have_common : (d f : Decl) → Related d.name f.name → HaveCommon (decl_mask d) (decl_mask f)
related_have_common d f h = related_families_meet (family_of d.name) (family_of f.name) h

-- what is within both is within what they have in common
pub within_both : (k m n : ℕ) → IsWithin k m → IsWithin k n → IsWithin k (bit_and m n)
within_both k m n h g i e = in_both m n i (h i e) (g i e)

-- a declaration of a rule is within its mask
pub decl_is_within : (xs : List DeclItem) (x : DeclItem) → Contains xs x → IsWithin (decl_mask x.decl) (with_items 0 xs)
decl_is_within xs x inside = items_put 0 xs x inside

more_common : (k m k' m' : ℕ) → HaveCommon k m → IsWithin k k' → IsWithin m m' → HaveCommon k' m'
more_common k m k' m' h left right = (h.0, left h.0 h.1, right h.0 h.2)

-- related declarations show where masks have them within
pub related_shows : (d : Decl) (m : ℕ) (r : RuleParts) (x : DeclItem) → IsWithin (decl_mask d) m → Contains r.decls x → Related d.name x.decl.name → bit_and m (item_mask (Rule r)) ≡ 0 → ⊥
related_shows d m r x within inside related none =
    common_shows m (item_mask (Rule r)) (more_common (decl_mask d) (decl_mask x.decl) m (item_mask (Rule r)) (related_have_common d x.decl related) within (decl_is_within r.decls x inside)) none

-- so does a kept item that weighs
pub kept_shows : (p : Pair) (m : ℕ) (item : Item) → IsWithin (decl_mask p.decl) m → WeighsKept p item → bit_and m (item_mask item) ≡ 0 → ⊥
kept_shows p m (Rule r) within weighs none = weighs
kept_shows p m (KeptRule k) within (d, inside, one) none =
    common_shows m (item_mask (KeptRule k)) (more_common (decl_mask p.decl) (decl_mask d) m (item_mask (KeptRule k)) (related_have_common p.decl d one.names) within (decls_put 0 k.decls d inside)) none
kept_shows p m (KeptBlock piece) within weighs none =
    let h : HaveCommon (decl_mask p.decl) all_bits = has_bit (family_of p.decl.name) in
    common_shows m all_bits (h.0, within h.0 h.1, h.2) none
