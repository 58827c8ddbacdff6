-- A barrier hinders each join of a rule up past it.
use Rattle.std.proofs.Common.{◌≡◌, ◌⊎◌, ℕ, zero, suc, ◌+◌, ◌<◌, ◌==◌, Bool, true, false, List, [], ◌∷◌, ◌++◌, length, Some, refl, sym, ap, ap₂, ◌∙◌, subst, inl, inr, arith}
use Rattle.std.specs.Prelude.{slice_get}
use Rattle.std.specs.List.{Contains, remove}
use Rattle.std.proofs.lemmas.Bool.{cond-true, cond-false}
use Rattle.std.proofs.lemmas.Bool.Decides.{Decides-eqb}
use Rattle.std.proofs.lemmas.List.{append_assoc}
use Rattle.std.proofs.lemmas.Option.{slice_get_within}
use Rattle.css_model.specs.declared.sheet.Item.{Item}
use Rattle.css_model.specs.declared.sheet.Item.TheVariants.{Rule}
use Rattle.css_model.specs.Cascade.Order.{Pair, HasPair, IsBefore}
use Rattle.css_model.specs.Cascade.Winner.{Place, IsLater}
use Rattle.css_model.specs.Sheets.RuleParts.{RuleParts}
use Rattle.css_model.specs.Sheets.StyleRule.{selectors_of}
use Rattle.order_laws.specs.Edits.{Change, instead, slots_from, whole_rule, edited}
use Rattle.order_laws.specs.Reversing.{ReversesPair}
use Rattle.order_laws.specs.Slots.{new_items}
use Rattle.order_laws.proofs.ForCallers.{before_in_two, has_new, has_rule, moved_is}
use Rattle.step_laws.specs.Steps.{decls_of}
use Rattle.plan_laws.specs.Barrier.Barriers.{IsBarrier, moving_up}
use Rattle.plan_laws.proofs.Barrier.Keys.{which_less}

-- ---- Of two pairs one comes last before the other, or the other way round

later_chain : (a b c d : Place) → IsLater b a → (IsLater b c → ⊥) → IsLater d c → IsLater d a
later_chain a b c d h no_later g = which (which_less c.item b.item) (which_less c.position b.position) h g
  where
    which : (c.item < b.item) ⊎ (c.item ≡ b.item) ⊎ (b.item < c.item) → (c.position < b.position) ⊎ (c.position ≡ b.position) ⊎ (b.position < c.position) → IsLater b a → IsLater d c → IsLater d a
    which (inl l) other h g = absurd (no_later (inl l))
    which (inr (inl e)) (inl l) h g = absurd (no_later (inr (sym e, l)))
    which (inr (inl e)) (inr k) (inl h) (inl g) = inl (omega (arith, e, h, g))
    which (inr (inl e)) (inr k) (inl h) (inr g) = inl (omega (arith, e, h, g.0))
    which (inr (inl e)) (inr k) (inr h) (inl g) = inl (omega (arith, e, h.0, g))
    which (inr (inl e)) (inr (inl k)) (inr h) (inr g) = inr (omega (arith, e, h.0, g.0), omega (arith, k, h.1, g.1))
    which (inr (inl e)) (inr (inr k)) (inr h) (inr g) = inr (omega (arith, e, h.0, g.0), omega (arith, k, h.1, g.1))
    which (inr (inr l)) other (inl h) (inl g) = inl (omega (arith, l, h, g))
    which (inr (inr l)) other (inl h) (inr g) = inl (omega (arith, l, h, g.0))
    which (inr (inr l)) other (inr h) (inl g) = inl (omega (arith, l, h.0, g))
    which (inr (inr l)) other (inr h) (inr g) = inl (omega (arith, l, h.0, g.0))

pub one_way : (items : List Item) (p q : Pair) → IsBefore items p q → IsBefore items q p → ⊥
one_way items p q b c =
    b.first.last c.later c.second.stands (later_chain b.place b.later c.place c.later b.before (c.first.last b.later b.second.stands) c.before)

-- ---- What a join up leaves

abbrev pub both : ℕ → List Item → ℕ → List Change
both x above y = record { at = x; by = above } ∷ record { at = y; by = [] } ∷ []

pub other_number : (x n : ℕ) → x < n → (x == n) ≡ false
other_number x n less = which (x == n) refl
  where
    which : (b : Bool) → (x == n) ≡ b → (x == n) ≡ false
    which true e = let g : x ≡ n = (Decides-eqb x n).0 e in absurd (omega (arith, g, less))
    which false e = e

pub more_number : (y n : ℕ) → n < y → (y == n) ≡ false
more_number y n less = which (y == n) refl
  where
    which : (b : Bool) → (y == n) ≡ b → (y == n) ≡ false
    which true e = let g : y ≡ n = (Decides-eqb y n).0 e in absurd (omega (arith, g, less))
    which false e = e

-- an item of another number stays
stays : (x y n : ℕ) (above : List Item) (item : Item) → (x == n) ≡ false → (y == n) ≡ false → instead (both x above y) n item ≡ item ∷ []
stays x y n above item ex ey = cond-false (x == n) (above) (instead (record { at = y; by = [] } ∷ []) n item) ex ∙ cond-false (y == n) [] (item ∷ []) ey

-- behind both numbers nothing changes
pub rest_stays : (x y n : ℕ) (above : List Item) (items : List Item) → x < n → y < n → new_items (slots_from n (both x above y) items) ≡ items
rest_stays x y n above [] lx ly = refl
rest_stays x y n above (item ∷ items) lx ly =
    ap₂ (λ (xs ys : List Item). xs ++ ys) (stays x y n above item (other_number x n lx) (other_number y n ly)) (rest_stays x y (n + 1) above items (omega arith) (omega arith))

-- from a number behind the first one on, the second one goes
pub second_goes : (x n y : ℕ) (above : List Item) (items : List Item) → x < n → new_items (slots_from n (both x above (n + y)) items) ≡ remove items y
second_goes x n zero above [] less = refl
second_goes x n (suc y) above [] less = refl
second_goes x n zero above (item ∷ items) less =
    let e : n + 0 ≡ n = omega arith in
    ap (λ (y : ℕ). instead (both x above y) n item ++ new_items (slots_from (n + 1) (both x above y) items)) e
    ∙ ap₂ (λ (xs ys : List Item). xs ++ ys)
    (cond-false (x == n) (above) (instead (record { at = n; by = [] } ∷ []) n item) (other_number x n less) ∙ cond-true (n == n) [] (item ∷ []) ((Decides-eqb n n).1 refl))
    (rest_stays x n (n + 1) above items (omega arith) (omega arith))
second_goes x n (suc y) above (item ∷ items) less =
    let e : n + suc y ≡ (n + 1) + y = omega arith in
    ap₂ (λ (xs ys : List Item). xs ++ ys) (stays x (n + suc y) n above item (other_number x n less) (more_number (n + suc y) n (omega arith)))
    (ap (λ (z : ℕ). new_items (slots_from (n + 1) (both x above z) items)) e ∙ second_goes x (n + 1) y above items (omega arith))

-- two parts of a sheet
pub parts : (changes : List Change) (n : ℕ) (above below : List Item) → new_items (slots_from n changes (above ++ below)) ≡ new_items (slots_from n changes above) ++ new_items (slots_from (n + length above) changes below)
parts changes n [] below = let e : n ≡ n + 0 = omega arith in ap (λ (m : ℕ). new_items (slots_from m changes below)) e
parts changes n (x ∷ above) below =
    let e : (n + 1) + length above ≡ n + length (x ∷ above) = omega arith in
    ap (λ (xs : List Item). instead changes n x ++ xs) (parts changes (n + 1) above below ∙ ap (λ (m : ℕ). new_items (slots_from (n + 1) changes above) ++ new_items (slots_from m changes below)) e)
    ∙ sym (append_assoc (instead changes n x) (new_items (slots_from (n + 1) changes above)) (new_items (slots_from (n + length (x ∷ above)) changes below)))

-- a join up, in two parts
pub up_split : (above below : List Item) (x y : ℕ) (made : RuleParts) → x < length above → new_items (slots_from 0 (both x (Rule made ∷ []) (length above + y)) (above ++ below)) ≡ new_items (slots_from 0 (both x (Rule made ∷ []) (length above + y)) above) ++ remove below y
up_split above below x y made less =
    let e : 0 + length above ≡ length above = omega arith in
    parts (both x (Rule made ∷ []) (length above + y)) 0 above below
    ∙ ap (λ (xs : List Item). new_items (slots_from 0 (both x (Rule made ∷ []) (length above + y)) above) ++ xs)
    (ap (λ (m : ℕ). new_items (slots_from m (both x (Rule made ∷ []) (length above + y)) below)) e ∙ second_goes x (length above) y (Rule made ∷ []) below less)

pub up_stands : (above : List Item) (x y : ℕ) (upper made : RuleParts) (p : Pair) → slice_get above x ≡ Some (Rule upper) → Contains (selectors_of made) p.selector → Contains (decls_of made) p.decl → HasPair (new_items (slots_from 0 (both x (Rule made ∷ []) (length above + y)) above)) p
up_stands above x y upper made p at hs hd =
    let e : x ≡ 0 + x = omega arith in
    has_new (both x (Rule made ∷ []) (length above + y)) 0 above x (Rule upper) p at
    (subst (λ (n : ℕ). HasPair (instead (both x (Rule made ∷ []) (length above + y)) n (Rule upper)) p) e
    (subst (λ (xs : List Item). HasPair xs p) (sym (cond-true (x == x) (Rule made ∷ []) (instead (record { at = length above + y; by = [] } ∷ []) x (Rule upper)) ((Decides-eqb x x).1 refl))) ((has_rule made p).1 (hs, hd))))

-- ---- Barriers

pub barriers_hinder : (above below : List Item) (y : ℕ) (lower : RuleParts) (p q : Pair) → IsBarrier above below y lower p q →
    (x : ℕ) (upper made : RuleParts) → slice_get above x ≡ Some (Rule upper) → Contains (selectors_of made) p.selector → Contains (decls_of made) p.decl →
    ReversesPair (above ++ below) (edited (moving_up above x y lower made) (above ++ below)) (whole_rule (length above + y) lower) p q
barriers_hinder above below y lower p q barrier x upper made at hs hd = record {
  moved = (moved_is (whole_rule (length above + y) lower) p).1 (barrier.pair.selector_in, barrier.pair.decl_in);
  there = (barrier.order.place, barrier.order.first.stands);
  weigh = barrier.weigh;
  order = inr (
    λ b. one_way (above ++ below) p q b barrier.order,
    subst (λ (xs : List Item). IsBefore xs p q) (sym (up_split above below x y made (slice_get_within above x (Rule upper) at)))
        ((before_in_two (new_items (slots_from 0 (both x (Rule made ∷ []) (length above + y)) above)) (remove below y) p q).1 (inr (inl (up_stands above x y upper made p at hs hd, barrier.nowhere_else, barrier.other)))),
  );
}
