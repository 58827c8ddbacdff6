-- The numbers of what is reversed are small.
use Rattle.std.proofs.Common.{◌≡◌, ℕ, zero, suc, ◌+◌, ◌≤◌, ◌<◌, Bool, true, List, [], ◌∷◌, length, map, Some, None, ap, arith}
use Rattle.std.specs.Prelude.{slice_get}
use Rattle.std.specs.List.{AllByRecursion}
use Rattle.cascade_laws.proofs.ForCallers.{some-same}
use Rattle.css_model.specs.Cascade.Order.{Pair}
use Rattle.css_model.specs.declared.sheet.Item.{Item}
use Rattle.css_model.specs.declared.sheet.Item.TheVariants.{Rule, KeptRule, KeptBlock}
use Rattle.css_model.specs.Sheets.RuleParts.{RuleParts}
use Rattle.order_laws.specs.Edits.{Moved}
use Rattle.order_laws.specs.Members.{has_number}
use Rattle.order_laws.specs.Places.{PlacedPair, StandsLast}
use Rattle.order_laws.specs.Reversed.{Other, AnotherPair, KeptAt, Reversal, reversed, IsReversedWith, ListedIsReversed}
use Rattle.step_laws.specs.Left.{PartsAreFew}
use Rattle.step_laws.specs.Sizes.{part_count, size}
use Rattle.sheet_order.specs.Narrow.{CanBePlanned, IsNarrow, IsNarrowOther, IsNarrowPlace}
use Rattle.sheet_order.proofs.Limited.{all_members}

below : {X : Type 0} (xs : List X) (i : ℕ) (x : X) → slice_get xs i ≡ Some x → i < length xs
below [] i x at = absurd (let e : None ≡ Some x = at in cc)
below (y ∷ xs) zero x at = omega arith
below (y ∷ xs) (suc i) x at = let h : i < length xs = below xs i x at in omega (arith, h)

mapped_below : {X Y : Type 0} (f : X → Y) (xs : List X) (i : ℕ) (y : Y) → slice_get (map f xs) i ≡ Some y → i < length xs
mapped_below f [] i y at = absurd (let e : None ≡ Some y = at in cc)
mapped_below f (x ∷ xs) zero y at = omega arith
mapped_below f (x ∷ xs) (suc i) y at = let h : i < length xs = mapped_below f xs i y at in omega (arith, h)

-- the parts of a rule are among those of the sheet
parts_below : (items : List Item) (n : ℕ) (r : RuleParts) → slice_get items n ≡ Some (Rule r) → length r.selectors + length r.decls ≤ part_count items
parts_below [] n r at = absurd (let e : None ≡ Some (Rule r) = at in cc)
parts_below (Rule q ∷ items) zero r at = let e : part_count (Rule q ∷ []) ≡ part_count (Rule r ∷ []) = ap (λ (item : Item). part_count (item ∷ [])) (some-same at) in omega (arith, e)
parts_below (KeptRule kept ∷ items) zero r at = absurd (let e : KeptRule kept ≡ Rule r = some-same at in cc)
parts_below (KeptBlock piece ∷ items) zero r at = absurd (let e : KeptBlock piece ≡ Rule r = some-same at in cc)
parts_below (Rule q ∷ items) (suc n) r at = let h = parts_below items n r at in omega (arith, h)
parts_below (KeptRule kept ∷ items) (suc n) r at = parts_below items n r at
parts_below (KeptBlock piece ∷ items) (suc n) r at = parts_below items n r at

pub narrow_place : PartsAreFew → (counts : ℕ → Bool) (items : List Item) (x : PlacedPair) → CanBePlanned items → StandsLast counts items x → IsNarrowPlace x.place
narrow_place few counts items x sheet stands =
    let a : x.place.item < length items = below items x.place.item (Rule stands.rule) stands.rule_at in
    let b : length stands.rule.selectors + length stands.rule.decls ≤ part_count items = parts_below items x.place.item stands.rule stands.rule_at in
    let c : part_count items ≤ size sheet.0 items = few sheet.0 items sheet.1.sound in
    let d : x.place.selector < length stands.rule.selectors = mapped_below (λ s. s.selector) stands.rule.selectors x.place.selector x.pair.selector stands.selector_at in
    let e : x.place.decl < length stands.rule.decls = below stands.rule.decls x.place.decl stands.item stands.decl_at in
    let f = sheet.1.few_items in
    let g = sheet.1.short in
    record { item = omega (arith, a, f); selector = omega (arith, b, c, d, g); decl = omega (arith, b, c, e, g) }

narrow_other : PartsAreFew → (items items' : List Item) (m : Moved) (p : Pair) (o : Other) → CanBePlanned items → IsReversedWith items items' m p o → IsNarrowOther o
narrow_other few items items' m p (AnotherPair q) sheet is = narrow_place few (λ n. true) items q sheet is.0
narrow_other few items items' m p (KeptAt n) sheet is = let a : n < length items = below items n is.0 is.1 in let f = sheet.1.few_items in omega (arith, a, f)

pub narrow_entry : PartsAreFew → (items items' : List Item) (m : Moved) → CanBePlanned items → (r : Reversal) →
    StandsLast (has_number m.out_of) items r.moved × IsReversedWith items items' m r.moved.pair r.other → IsNarrow r
narrow_entry few items items' m sheet r is = record {
  moved = narrow_place few (has_number m.out_of) items r.moved sheet is.0;
  other = narrow_other few items items' m r.moved.pair r.other sheet is.1;
}

pub all_narrow : PartsAreFew → ListedIsReversed → (items items' : List Item) (m : Moved) → CanBePlanned items → AllByRecursion IsNarrow (reversed items items' m)
all_narrow few listed items items' m sheet = all_members IsNarrow (reversed items items' m) (λ r h. narrow_entry few items items' m sheet r ((listed items items' m r).0 h))
