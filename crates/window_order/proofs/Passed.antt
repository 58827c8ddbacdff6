-- Items that are passed at once: where no selector of theirs has the bit of a pair's selector, the pair does not stand in them.
use Rattle.std.proofs.Common.{◌≡◌, ℕ, zero, suc, ◌+◌, Bool, true, false, not, ◌&&◌, ◌||◌, List, [], ◌∷◌, ◌++◌, map, take, drop, Option, Some, None, refl, sym, ap, ap₂, ◌∙◌, subst, append_assoc, arith}
use Rattle.std.specs.Prelude.{◌==◌, bit_and, bit_or, max, min, slice_get, zip}
use Rattle.std.specs.Int.{bit_at}
use Rattle.std.specs.List.{list_any}
use Rattle.std.proofs.lemmas.Bool.{false≢true}
use Rattle.std.proofs.lemmas.Nat.Bits.{bit_at-zero, bit_at_and, bit_at_or, same_from_bits}
use Rattle.css_model.specs.Cascade.Order.{Pair, HasPair}
use Rattle.css_model.specs.declared.sheet.Item.{Item}
use Rattle.item_masks.specs.declared.mask.ItemMask.{ItemMask}
use Rattle.item_masks.specs.Masks.{item_mask, pair_mask}
use Rattle.window_order.proofs.LastFound.{AreAbove, in_neither}
use Rattle.window_order.proofs.LastPlaces.{first_rest}
use Rattle.window_order.proofs.MaskedTests.{by_masks, masked_stands, one_is}
use Rattle.window_order.proofs.StandingTests.{stands_is}
use Rattle.window_order.specs.Places.{IsLastPlace, IsPlace}
use Rattle.window_order.specs.Standing.{is_in_item, stands, with_bits}

-- ---- Bits

first_lacks : (x y z : ℕ) → min (max x y) z ≡ 0 → min x z ≡ 0
first_lacks x y z e = grind (arith, e)

second_lacks : (x y z : ℕ) → min (max x y) z ≡ 0 → min y z ≡ 0
second_lacks x y z e = grind (arith, e)

both_lack : (a m s : ℕ) → bit_and (bit_or a m) s ≡ 0 → (bit_and a s ≡ 0) × (bit_and m s ≡ 0)
both_lack a m s none = (
  same_from_bits (bit_and a s) 0 (λ i. bit_at_and a s i ∙ first_lacks (bit_at a i) (bit_at m i) (bit_at s i) (here i) ∙ sym (bit_at-zero i)),
  same_from_bits (bit_and m s) 0 (λ i. bit_at_and m s i ∙ second_lacks (bit_at a i) (bit_at m i) (bit_at s i) (here i) ∙ sym (bit_at-zero i)),
)
  where
    here : (i : ℕ) → min (max (bit_at a i) (bit_at m i)) (bit_at s i) ≡ 0
    here i =
        ap (λ (b : ℕ). min b (bit_at s i)) (sym (bit_at_or a m i))
        ∙ sym (bit_at_and (bit_or a m) s i)
        ∙ ap (λ (n : ℕ). bit_at n i) none
        ∙ bit_at-zero i

-- ---- Items

none_and : (b : Bool) → (b && false) ≡ false
none_and true = refl
none_and false = refl

lacks : (p : Pair) (item : Item) → bit_and (item_mask item).selectors (pair_mask p).selectors ≡ 0 → is_in_item p item ≡ false
lacks p item none =
    sym (one_is p item)
    ∙ ap (λ (n : ℕ). (not (bit_and (item_mask item).families (pair_mask p).families == 0) && not (n == 0)) && is_in_item p item) none
    ∙ ap (λ (b : Bool). b && is_in_item p item) (none_and (not (bit_and (item_mask item).families (pair_mask p).families == 0)))

none_stand : (bits : ℕ) (items : List Item) (p : Pair) → bit_and (with_bits bits (map item_mask items)) (pair_mask p).selectors ≡ 0 →
    (bit_and bits (pair_mask p).selectors ≡ 0) × (stands items p ≡ false)
none_stand bits [] p none = (none, refl)
none_stand bits (item ∷ items) p none =
    let rest = none_stand (bit_or bits (item_mask item).selectors) items p none in
    let parts = both_lack bits (item_mask item).selectors (pair_mask p).selectors rest.0 in
    (parts.0, ap₂ (λ (a b : Bool). a || b) (lacks p item parts.1) rest.1)

pub few_passed : (p : Pair) (items : List Item) (masks : List ItemMask) (bits : ℕ) → masks ≡ map item_mask items → bits ≡ with_bits 0 masks → bit_and bits (pair_mask p).selectors ≡ 0 →
    false ≡ stands items p
few_passed p items masks bits of is none =
    sym (none_stand 0 items p (ap (λ (n : ℕ). bit_and n (pair_mask p).selectors) (sym (is ∙ ap (with_bits 0) of)) ∙ none)).1

pub few_looked_at : (p : Pair) (items : List Item) (masks : List ItemMask) (b : Bool) → masks ≡ map item_mask items → b ≡ list_any (by_masks p) (zip items masks) → b ≡ stands items p
few_looked_at p items masks b of is = is ∙ masked_stands p items masks of

-- ---- Some of many

either : (a b c : Bool) → (a || (b || c)) ≡ ((a || b) || c)
either true b c = refl
either false b c = refl

parted : (n : ℕ) (items : List Item) (p : Pair) → stands items p ≡ (stands (take n items) p || stands (drop n items) p)
parted zero items p = refl
parted (suc n) [] p = refl
parted (suc n) (item ∷ items) p = ap (λ (b : Bool). is_in_item p item || b) (parted n items p) ∙ either (is_in_item p item) (stands (take n items) p) (stands (drop n items) p)

module _ (items few behind : List Item) (n : ℕ) (p : Pair) (is_few : few ≡ take n items) (is_behind : behind ≡ drop n items) where
  both : stands items p ≡ (stands few p || stands behind p)
  both = parted n items p ∙ ap₂ (λ (xs ys : List Item). stands xs p || stands ys p) (sym is_few) (sym is_behind)

  -- the pair stands in the first of them
  pub in_few : (b : Bool) → b ≡ stands few p → b ≡ true → true ≡ stands items p
  in_few b is e = sym (both ∙ ap (λ (a : Bool). a || stands behind p) (sym is ∙ e))

  -- it stands behind them, if anywhere
  pub in_rest : (b : Bool) → b ≡ stands few p → b ≡ false → stands behind p ≡ stands items p
  in_rest b is e = sym (both ∙ ap (λ (a : Bool). a || stands behind p) (sym is ∙ e))

-- ---- The last one

more_above : (items rest : List Item) (n : ℕ) (p : Pair) → AreAbove items rest p p → stands (drop n rest) p ≡ false → AreAbove items (take n rest) p p
more_above items rest n p a none = record {
  behind = drop n rest ++ a.behind;
  parts = a.parts ∙ ap (λ (xs : List Item). xs ++ a.behind) (first_rest n rest) ∙ append_assoc (take n rest) (drop n rest) a.behind;
  first = in_neither (drop n rest) a.behind p passed a.first;
  second = in_neither (drop n rest) a.behind p passed a.second;
}
  where
    passed : HasPair (drop n rest) p → ⊥
    passed h = false≢true (sym none ∙ (stands_is (drop n rest) p).1 h)

pub passed_above : (items rest above few : List Item) (n : ℕ) (p : Pair) (b : Bool) → AreAbove items rest p p → above ≡ take n rest → few ≡ drop n rest → b ≡ stands few p → b ≡ false →
    AreAbove items above p p
passed_above items rest above few n p b a is_above is_few is e =
    subst (λ (xs : List Item). AreAbove items xs p p) (sym is_above)
    (more_above items rest n p a (ap (λ (xs : List Item). stands xs p) (sym is_few) ∙ sym is ∙ e))

at_front : (xs ys : List Item) (n : ℕ) (x : Item) → slice_get xs n ≡ Some x → slice_get (xs ++ ys) n ≡ Some x
at_front [] ys n x at = absurd (let e : None ≡ Some x = at in cc)
at_front (z ∷ xs) ys zero x at = at
at_front (z ∷ xs) ys (suc n) x at = at_front xs ys n x at

drop_front : (xs ys : List Item) (n : ℕ) (x : Item) → slice_get xs n ≡ Some x → drop (n + 1) (xs ++ ys) ≡ drop (n + 1) xs ++ ys
drop_front [] ys n x at = absurd (let e : None ≡ Some x = at in cc)
drop_front (z ∷ xs) ys zero x at = refl
drop_front (z ∷ xs) ys (suc n) x at =
    let e : suc n + 1 ≡ suc (n + 1) = omega arith in
    ap (λ (k : ℕ). drop k (z ∷ (xs ++ ys))) e ∙ drop_front xs ys n x at ∙ ap (λ (k : ℕ). drop k (z ∷ xs) ++ ys) (sym e)

-- the last place in the items that are left is the one in all
pub place_above : (items rest : List Item) (p : Pair) (at : Option ℕ) → AreAbove items rest p p → IsPlace rest p at → IsPlace items p at
place_above items rest p None a is = λ h. in_neither rest a.behind p is a.first (subst (λ (xs : List Item). HasPair xs p) a.parts h)
place_above items rest p (Some n) a is = record {
  item = is.item;
  item_at = ap (λ (xs : List Item). slice_get xs n) a.parts ∙ at_front rest a.behind n is.item is.item_at;
  stands = is.stands;
  none = λ h. in_neither (drop (n + 1) rest) a.behind p is.none a.first
      (subst (λ (xs : List Item). HasPair xs p) (ap (λ (xs : List Item). drop (n + 1) xs) a.parts ∙ drop_front rest a.behind n is.item is.item_at) h);
}
