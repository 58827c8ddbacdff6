-- What masks without a common bit tell: nothing weighs.
use Rattle.std.proofs.Common.{◌≡◌, ℕ, false, List, map, Some, sym, ap, ap₂, ◌∙◌}
use Rattle.std.specs.Option.{option_map}
use Rattle.std.specs.Prelude.{bit_and, slice_get}
use Rattle.std.proofs.lemmas.Bool.{false_from_ne_true}
use Rattle.std.proofs.lemmas.Option.{slice_get-map}
use Rattle.cascade_laws.proofs.ForCallers.{some-same}
use Rattle.css_model.specs.declared.sheet.Item.{Item}
use Rattle.css_model.specs.Cascade.Order.{Pair}
use Rattle.item_masks.specs.Masks as both
use Rattle.item_masks.specs.declared.mask.ItemMask.{ItemMask}
use Rattle.order_laws.specs.Comparing as order
use Rattle.order_laws.specs.Comparing.{WeighingIsDecided}
use Rattle.related_props.proofs.ForCallers as related
use Rattle.related_props.proofs.MaskBits.{common_shows}
use Rattle.related_props.specs.Masks.{decl_mask, item_mask}

pub weigh_shows : WeighingIsDecided → (p q : Pair) (m n : ℕ) → m ≡ decl_mask p.decl → n ≡ decl_mask q.decl → bit_and m n ≡ 0 → order.weigh p q ≡ false
weigh_shows weighing p q m n left right none = false_from_ne_true (order.weigh p q) (λ h.
    common_shows (decl_mask p.decl) (decl_mask q.decl) (related.related_have_common p.decl q.decl ((weighing.0 p q).0 h).names) (ap₂ bit_and (sym left) (sym right) ∙ none))

pub kept_shows : WeighingIsDecided → (p : Pair) (item : Item) (m n : ℕ) → m ≡ decl_mask p.decl → n ≡ item_mask item → bit_and m n ≡ 0 → order.weighs_kept p item ≡ false
kept_shows weighing p item m n left right none = false_from_ne_true (order.weighs_kept p item) (λ h.
    related.kept_shows p (decl_mask p.decl) item (λ i e. e) ((weighing.1 p item).0 h) (ap₂ bit_and (sym left) (sym right) ∙ none))

-- the families of the item of a number
pub mask_at : (items : List Item) (masks : List ItemMask) (n : ℕ) (m : ItemMask) → masks ≡ map both.item_mask items → slice_get masks n ≡ Some m → (item : Item) → slice_get items n ≡ Some item → m.families ≡ item_mask item
mask_at items masks n m is m_at item at =
    let there : slice_get masks n ≡ Some (both.item_mask item) = ap (λ (xs : List ItemMask). slice_get xs n) is ∙ slice_get-map both.item_mask items n ∙ ap (option_map both.item_mask) at in
    ap (λ (x : ItemMask). x.families) (some-same (sym m_at ∙ there))
