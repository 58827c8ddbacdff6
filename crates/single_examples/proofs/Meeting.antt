-- Where two selectors of one compound each meet, one of the documents has an element that passes.
use Rattle.std.proofs.Common.{◌≡◌, ◌⊎◌, inl, inr, ℕ, zero, suc, ◌<◌, ◌≤◌, ◌==◌, ◌&&◌, Bool, true, false, List, [], ◌∷◌, ◌++◌, length, Option, refl, sym, ap, subst, ◌∙◌, arith}
use Rattle.std.specs.Prelude.{Contains, slice_index}
use Rattle.std.specs.Bool.{MatchBool}
use Rattle.std.specs.List.{All}
use Rattle.std.proofs.lemmas.List.Elements.{All-weaker}
use Rattle.css_model.specs.Cascade.Order.{Meet}
use Rattle.css_model.specs.declared.selector.Combinator.{Combinator}
use Rattle.css_model.specs.declared.selector.Pseudo.{Pseudo}
use Rattle.css_model.specs.declared.selector.Simple.{Simple}
use Rattle.css_model.specs.declared.selector.Test.{Test}
use Rattle.css_model.specs.declared.selector.Test.TheVariants.{Any, Kind, Id, Attr, Nth, NthLast, OnlyChild, Root, Empty, State}
use Rattle.css_model.specs.Documents.Features.{CanSuit}
use Rattle.shape_laws.specs.Meeting.{MeetingHasAShape}
use Rattle.slot_plan.specs.declared.shape.SlotStep.{SlotStep}
use Rattle.slot_plan.specs.Positions.{PositionFits, PositionHolds, is_position}
use Rattle.slot_plan.specs.ShapeParts.{ShapeParts}
use Rattle.slot_plan.specs.Steps.{is_parent}
use Rattle.slot_plan.specs.ValidShape.{EmptyFits, RootFits, SlotsOf, ValidShape, simples_at}
use Rattle.sibling_counts.specs.Places.{ChildPasses}
use Rattle.single_examples.specs.Examples.{RootPasses}
use Rattle.single_examples.specs.Laws.{MeetingPasses, Passes, single}

-- the compound is in slot 0, the only one
one_left : (x : List Simple) (steps : List SlotStep) (slots : List ℕ) → SlotsOf (x ∷ []) [] steps slots → slots ≡ 0 ∷ []
one_left x steps [] h = absurd h
one_left x steps (p ∷ []) (e, asc, len, links) = ap (λ (q : ℕ). q ∷ []) e
one_left x steps (p ∷ q ∷ slots) (e, asc, len, links) = absurd links

no_steps : (steps : List SlotStep) (left right : List ℕ) → left ≡ 0 ∷ [] → right ≡ 0 ∷ [] → ((k : ℕ) → k ≤ length steps → Contains left k ⊎ Contains right k) → length steps ≡ 0
no_steps steps left right e f used = by (used (length steps) (omega arith))
  where
    one : (slots : List ℕ) → slots ≡ 0 ∷ [] → Contains slots (length steps) → length steps ≡ 0
    one slots g c = at (subst (λ (s : List ℕ). Contains s (length steps)) g c)
      where
        at : Contains (0 ∷ []) (length steps) → length steps ≡ 0
        at (zero, l, h) = sym h
        at (suc n, l, h) = absurd (omega arith)

    by : Contains left (length steps) ⊎ Contains right (length steps) → length steps ≡ 0
    by (inl c) = one left e c
    by (inr c) = one right f c

-- whether the root counts as a child says nothing of another element
child_one : (child : Bool) (b a : ℕ) (test : Test) → PositionHolds false child b a test → PositionHolds false false b a test
child_one child b a Any h = h
child_one child b a (Kind v) h = h
child_one child b a (Id v) h = h
child_one child b a (Attr v) h = h
child_one child b a (Nth v) h = h
child_one child b a (NthLast v) h = h
child_one child b a OnlyChild h = h
child_one child b a Root h = h
child_one child b a Empty h = h
child_one child b a (State v) h = h

child_back : (child : Bool) (b a : ℕ) (test : Test) → PositionHolds false false b a test → PositionHolds false child b a test
child_back child b a Any h = h
child_back child b a (Kind v) h = h
child_back child b a (Id v) h = h
child_back child b a (Attr v) h = h
child_back child b a (Nth v) h = h
child_back child b a (NthLast v) h = h
child_back child b a OnlyChild h = h
child_back child b a Root h = h
child_back child b a Empty h = h
child_back child b a (State v) h = h

fits_same : (P Q : Type 0) (negated : Bool) → (P → Q) → (Q → P) → MatchBool negated (P → ⊥) P → MatchBool negated (Q → ⊥) Q
fits_same P Q true to from h = λ q. h (from q)
fits_same P Q false to from h = to h

child_fits : (child : Bool) (b a : ℕ) (simples : List Simple) → All (PositionFits false child b a) simples → ChildPasses simples b a
child_fits child b a simples h =
    All-weaker (PositionFits false child b a) (PositionFits false false b a)
    (λ s k is. fits_same (PositionHolds false child b a s.test) (PositionHolds false false b a s.test) s.negated (child_one child b a s.test) (child_back child b a s.test) (k is)) simples h

-- from the facts of slot 0
slot_passes : (x y : List Simple) (root child : Bool) (b a : ℕ) → All (PositionFits root child b a) (x ++ y) → (root ≡ true → (b ≡ 0) × (a ≡ 0)) →
    ((before : ℕ) × (behind : ℕ) × ChildPasses (x ++ y) before behind) ⊎ ((root_is_child : Bool) × RootPasses root_is_child (x ++ y))
slot_passes x y false child b a h alone = inl (b, a, child_fits child b a (x ++ y) h)
slot_passes x y true child b a h alone =
    let e = alone refl in
    inr (child, subst (λ (n : ℕ). All (PositionFits true child n 0) (x ++ y)) e.0 (subst (λ (n : ℕ). All (PositionFits true child b n) (x ++ y)) e.1 h))

shape_passes : (x y : List Simple) (p q : Option Pseudo) (shape : ShapeParts) → ValidShape (single x p) (single y q) shape → Passes (x ++ y)
shape_passes x y p q shape v =
    let l = one_left x shape.steps shape.left v.left in
    let r = one_left y shape.steps shape.right v.right in
    let none = no_steps shape.steps shape.left shape.right l r v.used in
    record {
      features = at CanSuit l r (v.features 0 (omega arith));
      empties = at (EmptyFits false) l r (v.empties 0 (omega arith));
      position = slot_passes x y shape.top_is_root shape.root_is_child (slice_index shape.before 0) (slice_index shape.after 0)
          (subst (λ (t : Bool). All (PositionFits t shape.root_is_child (slice_index shape.before 0) (slice_index shape.after 0)) (x ++ y)) (top none)
          (at (All (PositionFits (shape.top_is_root && (0 == length shape.steps)) shape.root_is_child (slice_index shape.before 0) (slice_index shape.after 0))) l r (v.positions 0 (omega arith))))
          (λ e. alone none (v.root e));
    }
  where
    at : (P : List Simple → Type 0) → shape.left ≡ 0 ∷ [] → shape.right ≡ 0 ∷ [] → P (simples_at (x ∷ []) shape.left 0 ++ simples_at (y ∷ []) shape.right 0) → P (x ++ y)
    at P l r h = subst (λ (s : List ℕ). P (x ++ simples_at (y ∷ []) s 0)) r (subst (λ (s : List ℕ). P (simples_at (x ∷ []) s 0 ++ simples_at (y ∷ []) shape.right 0)) l h)

    and_true : (t : Bool) → (t && true) ≡ t
    and_true true = refl
    and_true false = refl

    top : length shape.steps ≡ 0 → (shape.top_is_root && (0 == length shape.steps)) ≡ shape.top_is_root
    top none = ap (λ (n : ℕ). shape.top_is_root && (0 == n)) none ∙ and_true shape.top_is_root

    alone : length shape.steps ≡ 0 → RootFits shape → (slice_index shape.before 0 ≡ 0) × (slice_index shape.after 0 ≡ 0)
    alone none h = (subst (λ (n : ℕ). slice_index shape.before n ≡ 0) none h.before, subst (λ (n : ℕ). slice_index shape.after n ≡ 0) none h.after)

pub meeting_passes : MeetingHasAShape → MeetingPasses
meeting_passes law x y p q meet =
    let s = law meet.doc meet.target (single x p) (single y q) meet.legal meet.first meet.second in
    shape_passes x y p q s.0 s.1
