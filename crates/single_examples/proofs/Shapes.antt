-- The shape of two selectors of one compound each: one slot, with the numbers of its siblings.
use Rattle.std.proofs.Common.{◌≡◌, ◌⊎◌, inl, inr, ℕ, zero, suc, ◌<◌, ◌≤◌, ◌==◌, ◌&&◌, Bool, true, false, List, [], ◌∷◌, ◌++◌, length, Option, refl, sym, ap, subst, arith}
use Rattle.std.specs.Prelude.{Contains, slice_index}
use Rattle.std.specs.List.{All}
use Rattle.css_model.specs.declared.selector.Pseudo.{Pseudo}
use Rattle.css_model.specs.declared.selector.Simple.{Simple}
use Rattle.css_model.specs.Documents.FeatureParts.{FeatureParts}
use Rattle.css_model.specs.Documents.Features.{CanSuit}
use Rattle.css_model.specs.Documents.SelectorParts.{SelectorParts}
use Rattle.shape_laws.specs.Document.SlotElements.{AreSlotElements, SuitsSlot, own_id}
use Rattle.shape_laws.specs.Document.Trees.{example_of}
use Rattle.slot_plan.specs.Positions.{PositionFits}
use Rattle.slot_plan.specs.ShapeParts.{ShapeParts}
use Rattle.slot_plan.specs.Steps.{is_parent}
use Rattle.slot_plan.specs.ValidShape.{EmptyFits, ValidShape, is_root_slot, simples_in}
use Rattle.single_examples.specs.Examples.{child_example, root_example}
use Rattle.single_examples.specs.Laws.{single}

abbrev pub one_slot : (root root_is_child : Bool) (before behind : ℕ) → ShapeParts
one_slot root root_is_child before behind = record {
  steps = [];
  left = 0 ∷ [];
  right = 0 ∷ [];
  before = before ∷ [];
  after = behind ∷ [];
  top_is_root = root;
  root_is_child = root_is_child;
}

-- what holds of slot 0 holds of each slot
of_slots : (P : ℕ → Type 0) → P 0 → (k : ℕ) → k ≤ 0 → P k
of_slots P h k l = subst P (let e : 0 ≡ k = omega arith in e) h

there : (k : ℕ) → k ≤ 0 → Contains (0 ∷ []) k
there k l = subst (Contains (0 ∷ [])) (let e : 0 ≡ k = omega arith in e) (0, omega arith, refl)

inside : (k : ℕ) → Contains (0 ∷ []) k ⊎ Contains (0 ∷ []) k → k ≤ 0
inside k (inl (zero, l, e)) = let q : 0 ≡ k = e in omega arith
inside k (inl (suc n, l, e)) = absurd (omega arith)
inside k (inr (zero, l, e)) = let q : 0 ≡ k = e in omega arith
inside k (inr (suc n, l, e)) = absurd (omega arith)

pub child_is_valid : (x y : List Simple) (p : Option Pseudo) (child : Bool) (b a : ℕ) → All (PositionFits false child b a) (x ++ y) → EmptyFits false (x ++ y) → CanSuit (x ++ y) →
    ValidShape (single x p) (single y p) (one_slot false child b a)
child_is_valid x y p child b a positions empties features = record {
  left = (refl, tt, refl, tt);
  right = (refl, tt, refl, tt);
  used = λ k l. inl (there k l);
  inside = inside;
  counts = tt;
  root = λ e. absurd (let bad : ⊥ = cc in bad);
  positions = of_slots (λ k. All (PositionFits (is_root_slot (one_slot false child b a) k) child (slice_index (b ∷ []) k) (slice_index (a ∷ []) k)) (simples_in (single x p) (single y p) (one_slot false child b a) k)) positions;
  empties = of_slots (λ k. EmptyFits (is_parent [] k) (simples_in (single x p) (single y p) (one_slot false child b a) k)) empties;
  features = of_slots (λ k. CanSuit (simples_in (single x p) (single y p) (one_slot false child b a) k)) features;
  ids = λ j k id l m c d. omega arith;
  pseudo = refl;
}

pub root_is_valid : (x y : List Simple) (p : Option Pseudo) (child : Bool) → All (PositionFits true child 0 0) (x ++ y) → EmptyFits false (x ++ y) → CanSuit (x ++ y) →
    ValidShape (single x p) (single y p) (one_slot true child 0 0)
root_is_valid x y p child positions empties features = record {
  left = (refl, tt, refl, tt);
  right = (refl, tt, refl, tt);
  used = λ k l. inl (there k l);
  inside = inside;
  counts = tt;
  root = λ e. record { on_line = inl refl; before = refl; after = refl };
  positions = of_slots (λ k. All (PositionFits (is_root_slot (one_slot true child 0 0) k) child (slice_index (0 ∷ []) k) (slice_index (0 ∷ []) k)) (simples_in (single x p) (single y p) (one_slot true child 0 0) k)) positions;
  empties = of_slots (λ k. EmptyFits (is_parent [] k) (simples_in (single x p) (single y p) (one_slot true child 0 0) k)) empties;
  features = of_slots (λ k. CanSuit (simples_in (single x p) (single y p) (one_slot true child 0 0) k)) features;
  ids = λ j k id l m c d. omega arith;
  pseudo = refl;
}

pub one_element : (x y : List Simple) (p : Option Pseudo) (root child : Bool) (b a : ℕ) (f : FeatureParts) → SuitsSlot false (x ++ y) f →
    AreSlotElements (single x p) (single y p) (one_slot root child b a) (f ∷ [])
one_element x y p root child b a f h = record {
  count = refl;
  each = (h, tt);
  ids = ((λ id e c. none id c), tt);
}
  where
    none : (id : List ℕ) → Contains [] id → ⊥
    none id (k, l, e) = omega arith

-- their examples are those of the shape
pub child_is : (b a : ℕ) (f : FeatureParts) (p : Option Pseudo) → example_of p (one_slot false false b a) (f ∷ []) ≡ child_example b a f p
child_is zero zero f p = refl
child_is zero (suc a) f p = refl
child_is (suc b) zero f p = refl
child_is (suc b) (suc a) f p = refl

pub root_is : (child : Bool) (f : FeatureParts) (p : Option Pseudo) → example_of p (one_slot true child 0 0) (f ∷ []) ≡ root_example child f p
root_is child f p = refl
