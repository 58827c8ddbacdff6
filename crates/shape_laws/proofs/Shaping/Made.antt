-- The shape of two matchings in a document.
use Rattle.std.proofs.Common.{Bool, List, Some, ap, arith, false, inl, inr, length, map, refl, sym, true, ℕ, ◌&&◌, ◌<◌, ◌∙◌, ◌∷◌, ◌≡◌, ◌≤◌, ◌⊎◌}
use Rattle.std.proofs.lemmas.Bool.{eq-eqb}
use Rattle.std.proofs.lemmas.List.Elements.{All-append}
use Rattle.std.specs.List.{All, AllByRecursion, AllZip}
use Rattle.std.specs.Prelude.{◌==◌}
use Rattle.css_model.specs.Documents.Document.{Document, ElementAt, element_at}
use Rattle.css_model.specs.Documents.SelectorParts.{SelectorParts}
use Rattle.slot_plan.specs.ShapeParts.{ShapeParts}
use Rattle.slot_plan.specs.ValidShape.{is_root_slot, simples_at, simples_in}
use Rattle.shape_laws.proofs.Elements.Counts.{after_in, before_in}
use Rattle.shape_laws.proofs.Elements.Seen.{Sees, Stood, slot_by_slot}
use Rattle.shape_laws.proofs.Elements.Siblings.{row_after, row_before}
use Rattle.shape_laws.proofs.Slots.InOrder.{length-steps_from, nth_last, rise_behind}
use Rattle.shape_laws.proofs.Slots.Numbers.{numbered}
use Rattle.shape_laws.proofs.Slots.SlotList.{AreUsed, Slot, SlotsRise, in_both, last_place, nth_place, numbers_where, places_where, steps_from}
use Rattle.shape_laws.proofs.Visits.Order.{Behind}
use Rattle.shape_laws.proofs.Visits.Places.{Place, Trail}
use Rattle.shape_laws.proofs.Visits.Trails.{height}

-- the place of the target
abbrev pub origin : Place
origin = record { up = 0; left = 0 }

-- the shape of slots in a document
abbrev pub shape_for : Document → List ℕ → List Slot → ShapeParts
shape_for doc target ss = record {
  steps = steps_from origin ss;
  left = 0 ∷ numbers_where (λ s. s.in_left) 1 ss;
  right = 0 ∷ numbers_where (λ s. s.in_right) 1 ss;
  before = before_in (row_before target) origin ∷ map (λ s. before_in (row_before target) s.place) ss;
  after = after_in (row_after doc target) origin ∷ map (λ s. after_in (row_after doc target) s.place) ss;
  top_is_root = (last_place origin ss).up == length target;
  root_is_child = doc.root_is_child;
}

-- what is known of the slots of two matchings
pub record Ready (doc : Document) (target : List ℕ) (x y : SelectorParts) (there : ElementAt) (ss : List Slot) : Type 0 where
  pub e : element_at doc target ≡ Some there
  pub rise : SlotsRise origin ss
  pub used : AreUsed ss
  pub seen_left : AllZip (λ c p. All (Sees doc target p) c) x.chain (origin ∷ places_where (λ s. s.in_left) ss)
  pub seen_right : AllZip (λ c p. All (Sees doc target p) c) y.chain (origin ∷ places_where (λ s. s.in_right) ss)
  pub trail_left : Trail x.links origin (places_where (λ s. s.in_left) ss)
  pub trail_right : Trail y.links origin (places_where (λ s. s.in_right) ss)
  pub stand : (k : ℕ) → Stood doc target (nth_place origin ss k)
  pub rooms : AllByRecursion (λ s. s.place.left ≤ row_before target s.place.up) ss

-- each simple selector in a slot holds there
pub sees_in : (doc : Document) (target : List ℕ) (x y : SelectorParts) (there : ElementAt) (ss : List Slot) → Ready doc target x y there ss → (k : ℕ) → All (Sees doc target (nth_place origin ss k)) (simples_in x y (shape_for doc target ss) k)
sees_in doc target x y there ss r k =
    All-append (Sees doc target (nth_place origin ss k)) (simples_at x.chain (0 ∷ numbers_where (λ s. s.in_left) 1 ss) k) (simples_at y.chain (0 ∷ numbers_where (λ s. s.in_right) 1 ss) k)
    (slot_by_slot (Sees doc target) (λ s. s.in_left) (nth_place origin ss) 0 (in_both origin ∷ ss) x.chain (refl, numbered origin ss) r.seen_left k)
    (slot_by_slot (Sees doc target) (λ s. s.in_right) (nth_place origin ss) 0 (in_both origin ∷ ss) y.chain (refl, numbered origin ss) r.seen_right k)

-- a test and one that holds
and_true : (b : Bool) → (b && true) ≡ b
and_true true = refl
and_true false = refl

-- and one that does not
and_false : (b : Bool) → (b && false) ≡ false
and_false true = refl
and_false false = refl

-- a slot is that of the root exactly where its place is as high as the target's path is long
pub root_is : (doc : Document) (target : List ℕ) (x y : SelectorParts) (there : ElementAt) (ss : List Slot) → Ready doc target x y there ss → (k : ℕ) → k ≤ length ss →
    is_root_slot (shape_for doc target ss) k ≡ ((nth_place origin ss k).up == length target)
root_is doc target x y there ss r k inside = by (last_or k (length ss) inside)
  where
    last_or : (k n : ℕ) → k ≤ n → (k ≡ n) ⊎ (k < n)
    last_or k n h = grind arith

    by : (k ≡ length ss) ⊎ (k < length ss) → is_root_slot (shape_for doc target ss) k ≡ ((nth_place origin ss k).up == length target)
    by (inl is) =
        ap (λ b. ((last_place origin ss).up == length target) && b) (eq-eqb k (length (steps_from origin ss)) (is ∙ sym (length-steps_from origin ss)))
        ∙ and_true ((last_place origin ss).up == length target)
        ∙ ap (λ (p : Place). p.up == length target) (sym (nth_last origin ss) ∙ ap (nth_place origin ss) (sym is))
    by (inr less) =
        ap (λ b. ((last_place origin ss).up == length target) && b) (let l = length-steps_from origin ss in let w : (k == length (steps_from origin ss)) ≡ false = grind arith in w)
        ∙ and_false ((last_place origin ss).up == length target)
        ∙ sym (not_there (rise_behind origin ss k (length ss) r.rise less (omega arith)))
      where
        top : Stood doc target (nth_place origin ss (length ss))
        top = r.stand (length ss)

        not_there : Behind (nth_place origin ss k) (nth_place origin ss (length ss)) → ((nth_place origin ss k).up == length target) ≡ false
        not_there b = let h = height target (nth_place origin ss (length ss)) top.path top.at in
            elim b [ inl u ↦ (let h0 = h.0 in grind arith) | inr w ↦ (let u = w.0 in let l = w.1 in let h0 = h.0 in let h1 = h.1 in grind arith) ]
