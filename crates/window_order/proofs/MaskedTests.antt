-- By masks it is told where a pair stands.
use Rattle.std.proofs.Common.{◌≡◌, ◌↔◌, ℕ, Bool, true, false, ◌&&◌, ◌||◌, List, [], ◌∷◌, ◌-◌, map, take, drop, refl, sym, ap, ◌∙◌}
use Rattle.std.specs.Prelude.{slice_range, zip}
use Rattle.std.specs.List.{list_any}
use Rattle.std.proofs.lemmas.Bool.{false≢true}
use Rattle.std.proofs.lemmas.List.{drop-map, take-map}
use Rattle.css_model.specs.Cascade.Order.{Pair, HasPair}
use Rattle.css_model.specs.declared.sheet.Item.{Item}
use Rattle.item_masks.proofs.ForCallers.{stands_meets}
use Rattle.item_masks.specs.declared.mask.ItemMask.{ItemMask}
use Rattle.item_masks.specs.Masks.{item_mask, meets, pair_mask}
use Rattle.window_order.proofs.StandingTests.{in_item_is, stands_is}
use Rattle.window_order.specs.Left.{Covers}
use Rattle.window_order.specs.Standing.{is_in_item, is_in_masked, stands}

none_passes : (b : Bool) → (b && false) ≡ false
none_passes true = refl
none_passes false = refl

-- a test is the one behind a first one that it implies
first_test : (a b : Bool) → (b ≡ true → a ≡ true) → (a && b) ≡ b
first_test a true h = ap (λ (c : Bool). c && true) (h refl)
first_test a false h = none_passes a

pub one_is : (p : Pair) (item : Item) → is_in_masked (pair_mask p) p item (item_mask item) ≡ is_in_item p item
one_is p item = first_test (meets (item_mask item) (pair_mask p)) (is_in_item p item) (λ h. stands_meets p item ((in_item_is p item).0 h))

abbrev pub by_masks : Pair → Item × ItemMask → Bool
by_masks p x = is_in_masked (pair_mask p) p x.0 x.1

all_are : (p : Pair) (items : List Item) → list_any (by_masks p) (zip items (map item_mask items)) ≡ stands items p
all_are p [] = refl
all_are p (item ∷ items) = ap (λ (b : Bool). b || list_any (by_masks p) (zip items (map item_mask items))) (one_is p item) ∙ ap (λ (b : Bool). is_in_item p item || b) (all_are p items)

pub masked_stands : (p : Pair) (items : List Item) (masks : List ItemMask) → masks ≡ map item_mask items → list_any (by_masks p) (zip items masks) ≡ stands items p
masked_stands p items masks masks_are = ap (λ (list : List ItemMask). list_any (by_masks p) (zip items list)) masks_are ∙ all_are p items

-- the test that computes tells it in words
pub told_is : (p : Pair) (items : List Item) (b : Bool) → b ≡ stands items p → (b ≡ true) ↔ HasPair items p
told_is p items b same = (λ e. (stands_is items p).0 (sym same ∙ e), λ h. same ∙ (stands_is items p).1 h)

-- in items that a mask covers a pair does not stand that it does not meet
pub uncovered : (mask of_p : ItemMask) (items : List Item) (p p' : Pair) (b : Bool) → Covers mask items → p' ≡ p → of_p ≡ pair_mask p' → b ≡ meets mask of_p → b ≡ false → HasPair items p → ⊥
uncovered mask of_p items p p' b covers same of_pair told unmet has =
    let met : meets mask of_p ≡ true = ap (λ (m : ItemMask). meets mask m) (of_pair ∙ ap pair_mask same) ∙ covers p has in
    false≢true (sym unmet ∙ told ∙ met)

-- the masks of what lies behind
pub masks_behind : (items : List Item) (masks : List ItemMask) (n : ℕ) → masks ≡ map item_mask items → drop n masks ≡ map item_mask (drop n items)
masks_behind items masks n is = ap (λ (list : List ItemMask). drop n list) is ∙ drop-map item_mask n items

-- the masks of the first ones, and of a range
pub masks_above : (items : List Item) (masks : List ItemMask) (n : ℕ) → masks ≡ map item_mask items → take n masks ≡ map item_mask (take n items)
masks_above items masks n is = ap (λ (list : List ItemMask). take n list) is ∙ take-map item_mask n items

pub masks_between : (items : List Item) (masks : List ItemMask) (first last : ℕ) → masks ≡ map item_mask items → slice_range masks first last ≡ map item_mask (slice_range items first last)
masks_between items masks first last is =
    ap (λ (list : List ItemMask). slice_range list first last) is
    ∙ ap (λ (list : List ItemMask). take (last - first) list) (drop-map item_mask first items)
    ∙ take-map item_mask (last - first) (drop first items)

-- of one item
pub masked_item_is : (p : Pair) (item : Item) (of_item : ItemMask) (b : Bool) → of_item ≡ item_mask item → b ≡ is_in_masked (pair_mask p) p item of_item → (b ≡ true) ↔ HasPair (item ∷ []) p
masked_item_is p item of_item b of is = (λ e. (in_item_is p item).0 (sym same ∙ e), λ h. same ∙ (in_item_is p item).1 h)
  where
    same : b ≡ is_in_item p item
    same = is ∙ ap (λ (m : ItemMask). is_in_masked (pair_mask p) p item m) of ∙ one_is p item
