-- Tests of positions, by the numbers of siblings.
use Rattle.std.proofs.Common.{Bool, List, None, Option, Some, [], ap, arith, false, length, refl, subst, suc, sym, true, ℕ, ◌++◌, ◌+◌, ◌-◌, ◌<◌, ◌↔◌, ◌∙◌, ◌∷◌, ◌≡◌}
use Rattle.std.proofs.lemmas.Bool.{eq-eqb, false≢true}
use Rattle.std.proofs.lemmas.List.{length-append}
use Rattle.std.specs.Bool.{MatchBool}
use Rattle.std.specs.Prelude.{IsSomeAnd, if◌then◌else◌, ◌==◌}
use Rattle.css_model.specs.Documents.Document.{Document, ElementAt, element_at}
use Rattle.css_model.specs.Documents.Matching.{IsNth, SimpleHolds, TestHolds, count_siblings}
use Rattle.css_model.specs.declared.position.AnB.{AnB}
use Rattle.css_model.specs.declared.selector.Simple.{Simple}
use Rattle.css_model.specs.declared.selector.Test.{Test}
use Rattle.css_model.specs.declared.selector.Test.TheVariants.{Any, Attr, Empty, Id, Kind, Nth, NthLast, OnlyChild, Root, State}
use Rattle.slot_plan.specs.Positions.{PositionFits, PositionHolds, is_position}
use Rattle.shape_laws.proofs.Elements.Siblings.{counts_of, end_place, row_after, row_before, start_place}
use Rattle.shape_laws.proofs.Lists.{push_some}
use Rattle.shape_laws.proofs.Visits.Places.{IsPlace, Place, child, root}

-- the number of the root among its siblings
abbrev pub as_child : Bool → Option ℕ
as_child b = if b then Some 1 else None

-- a test on positions at the root
pub root_position : (doc : Document) (here : ElementAt) (before after : ℕ) (t : Test) → is_position t ≡ true → TestHolds doc [] here t ↔ PositionHolds true doc.root_is_child before after t
root_position doc here before after t test = by t test
  where
    number : (is_child : Bool) (x : AnB) → IsSomeAnd (as_child is_child) (λ place. IsNth x place) ↔ ((is_child ≡ true) × IsNth x 1)
    number true x = (λ w. (refl, w), λ w. w.1)
    number false x = (λ w. absurd w, λ w. false≢true w.0)

    only : (is_child : Bool) → (((as_child is_child) ≡ Some 1) × ((as_child is_child) ≡ Some 1)) ↔ (is_child ≡ true)
    only true = (λ _. refl, λ _. (refl, refl))
    only false = (λ w. (let q : None ≡ Some 1 = w.0 in absurd cc), λ w. absurd (false≢true w))

    by : (t : Test) → is_position t ≡ true → TestHolds doc [] here t ↔ PositionHolds true doc.root_is_child before after t
    by (Nth x) _ = number doc.root_is_child x
    by (NthLast x) _ = number doc.root_is_child x
    by OnlyChild _ = only doc.root_is_child
    by Root _ = (λ _. refl, λ _. refl)
    by Any bad = absurd (false≢true bad)
    by (Kind name) bad = absurd (false≢true bad)
    by (Id name) bad = absurd (false≢true bad)
    by (Attr test) bad = absurd (false≢true bad)
    by Empty bad = absurd (false≢true bad)
    by (State flag) bad = absurd (false≢true bad)

-- and at any other element, by its index among its siblings and by how many stand behind it
pub child_position : (doc : Document) (parent : List ℕ) (i : ℕ) (here : ElementAt) (t : Test) → is_position t ≡ true →
    TestHolds doc (parent ++ i ∷ []) here t ↔ PositionHolds false doc.root_is_child i (count_siblings here.later) t
child_position doc parent i here t test = by t test
  where
    one : (m : ℕ) → Some (suc m) ≡ Some 1 → m ≡ 0
    one m q = let r : suc m ≡ 1 = cc in omega arith

    by : (t : Test) → is_position t ≡ true → TestHolds doc (parent ++ i ∷ []) here t ↔ PositionHolds false doc.root_is_child i (count_siblings here.later) t
    by (Nth x) _ =
        let s = start_place doc parent i in let q : suc i ≡ i + 1 = omega arith in
        (λ w. subst (IsNth x) q (subst (λ o. IsSomeAnd o (λ place. IsNth x place)) s w), λ w. subst (λ o. IsSomeAnd o (λ place. IsNth x place)) (sym s) (subst (IsNth x) (sym q) w))
    by (NthLast x) _ =
        let s = end_place doc parent i here in let q : suc (count_siblings here.later) ≡ count_siblings here.later + 1 = omega arith in
        (λ w. subst (IsNth x) q (subst (λ o. IsSomeAnd o (λ place. IsNth x place)) s w), λ w. subst (λ o. IsSomeAnd o (λ place. IsNth x place)) (sym s) (subst (IsNth x) (sym q) w))
    by OnlyChild _ =
        let s = start_place doc parent i in let s' = end_place doc parent i here in
        (λ w. (one i (sym s ∙ w.0), one (count_siblings here.later) (sym s' ∙ w.1)), λ w. (s ∙ ap (λ (m : ℕ). Some (suc m)) w.0, s' ∙ ap (λ (m : ℕ). Some (suc m)) w.1))
    by Root _ = (λ w. absurd (push_some parent i w), λ w. absurd (false≢true w))
    by Any bad = absurd (false≢true bad)
    by (Kind name) bad = absurd (false≢true bad)
    by (Id name) bad = absurd (false≢true bad)
    by (Attr test) bad = absurd (false≢true bad)
    by Empty bad = absurd (false≢true bad)
    by (State flag) bad = absurd (false≢true bad)

-- a test on positions, by the counts of the row
position_at : (doc : Document) (target path : List ℕ) (there here : ElementAt) (p : Place) (t : Test) → IsPlace target p path → element_at doc target ≡ Some there → element_at doc path ≡ Some here → is_position t ≡ true →
    TestHolds doc path here t ↔ PositionHolds (p.up == length target) doc.root_is_child (row_before target p.up - p.left) (row_after doc target p.up + p.left) t
position_at doc target path there here p t (root n l is) e h test =
    subst (λ r. TestHolds doc r here t ↔ PositionHolds (p.up == length target) doc.root_is_child (row_before target p.up - p.left) (row_after doc target p.up + p.left) t) (sym is)
    (subst (λ b. TestHolds doc [] here t ↔ PositionHolds b doc.root_is_child (row_before target p.up - p.left) (row_after doc target p.up + p.left) t) (sym (eq-eqb p.up (length target) (sym n)))
    (root_position doc here (row_before target p.up - p.left) (row_after doc target p.up + p.left) t test))
position_at doc target path there here p t (child parent i below at n is) e h test =
    subst (λ r. TestHolds doc r here t ↔ PositionHolds (p.up == length target) doc.root_is_child (row_before target p.up - p.left) (row_after doc target p.up + p.left) t) (sym is)
    (subst (λ b. TestHolds doc (parent ++ i ∷ []) here t ↔ PositionHolds b doc.root_is_child (row_before target p.up - p.left) (row_after doc target p.up + p.left) t) (sym not_root)
    (subst (λ (m : ℕ). TestHolds doc (parent ++ i ∷ []) here t ↔ PositionHolds false doc.root_is_child m (row_after doc target p.up + p.left) t) (sym before_is)
    (subst (λ (m : ℕ). TestHolds doc (parent ++ i ∷ []) here t ↔ PositionHolds false doc.root_is_child i m t) facts.1 (child_position doc parent i here t test))))
  where
    facts : (row_before target p.up ≡ p.left + i) × (count_siblings here.later ≡ row_after doc target p.up + p.left)
    facts = counts_of doc target there here p parent i below at n e (ap (element_at doc) (sym is) ∙ h)

    before_is : row_before target p.up - p.left ≡ i
    before_is = let f = facts.0 in omega arith

    not_root : (p.up == length target) ≡ false
    not_root = let l = length-append parent ((p.left + i) ∷ below) in let w = ap length at in let less : p.up < length target = omega arith in grind arith

-- a simple selector on positions holds where it fits the counts
pub position_fits : (doc : Document) (target path : List ℕ) (there here : ElementAt) (p : Place) (s : Simple) → IsPlace target p path → element_at doc target ≡ Some there → element_at doc path ≡ Some here → SimpleHolds doc path here s →
    PositionFits (p.up == length target) doc.root_is_child (row_before target p.up - p.left) (row_after doc target p.up + p.left) s
position_fits doc target path there here p s at e h holds test = by s.negated holds
  where
    same : TestHolds doc path here s.test ↔ PositionHolds (p.up == length target) doc.root_is_child (row_before target p.up - p.left) (row_after doc target p.up + p.left) s.test
    same = position_at doc target path there here p s.test at e h test

    by : (b : Bool) → MatchBool b (TestHolds doc path here s.test → ⊥) (TestHolds doc path here s.test) →
        MatchBool b (PositionHolds (p.up == length target) doc.root_is_child (row_before target p.up - p.left) (row_after doc target p.up + p.left) s.test → ⊥) (PositionHolds (p.up == length target) doc.root_is_child (row_before target p.up - p.left) (row_after doc target p.up + p.left) s.test)
    by true no' = λ w. no' (same.1 w)
    by false yes' = same.0 yes'
