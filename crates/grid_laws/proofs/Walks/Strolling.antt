-- A walk through true nodes alone, where no test looks at numbers: all siblings are direct neighbours.
use Rattle.std.proofs.Common.{Bool, List, [], arith, false, get_or, length, map, refl, subst, suc, sym, true, zero, ℕ, ◌++◌, ◌+◌, ◌∙◌, ◌≡◌, ◌≤◌, ◌∷◌}
use Rattle.std.proofs.lemmas.Bool.{false≢true}
use Rattle.std.specs.Prelude.{if◌then◌else◌, ◌==◌}
use Rattle.css_model.specs.declared.selector.Combinator.{Combinator}
use Rattle.grid_laws.proofs.Walks.Going.{laid_by, shift, slots_left, slots_right, to_both, to_left, to_right, way}
use Rattle.grid_laws.proofs.Walks.Laid.{On, WalkFits}
use Rattle.grid_laws.proofs.Walks.Listing.{steps_of}
use Rattle.grid_laws.proofs.Walks.Pending.{Pending, lay, pending_none, wait}
use Rattle.grid_laws.proofs.Walks.Walking.{grid_left, grid_right}
use Rattle.grid_laws.specs.Grid.{Grid, Lays, Nodes, goes_up, has_left, has_right, left_alone, right_alone, together}
use Rattle.grid_laws.specs.Slots.{Laid, after_by, before_by, laid_next, numbered, row_before, slot_at, slots_from, step_for}
use Rattle.slot_plan.specs.Counts.{CountsFit, StepCounts}
use Rattle.slot_plan.specs.Steps.{LinkFits, is_parent, is_up}
use Rattle.slot_plan.specs.declared.shape.SlotStep.{SlotStep}
use Rattle.slot_plan.specs.declared.shape.SlotStep.TheVariants.{Further, NextTo}

-- What holds of the slots: a siblings are behind the slot laid last, and b before it. The last slot has none before it, and
-- none behind it where a step up leads to it.
pub record Strolled (xl yl : List Combinator) (v : Nodes) (mx my : List SlotStep) (a b : ℕ) (slots : List Laid) : Type 0 where
  pub left : WalkFits has_left xl mx slots
  pub right : WalkFits has_right yl my slots
  pub counts : CountsFit (map (λ s. s.step) slots) (b ∷ map (λ s. s.before) slots) (a ∷ map (λ s. s.after) slots)
  pub on : On v slots
  pub last_before : get_or (b ∷ map (λ s. s.before) slots) (length slots) 0 ≡ 0
  pub last_after : is_parent (steps_of slots) (length slots) ≡ true → get_or (a ∷ map (λ s. s.after) slots) (length slots) 0 ≡ 0

-- a slot whose siblings are direct neighbours
abbrev one_more : Lays → ℕ → Bool → ℕ → Laid
one_more k a up b = record { step = step_for up 1 0; lays = k; before = b; after = after_by up a }

-- the numbers of a step
fitting : (up : Bool) (b' a : ℕ) → StepCounts (step_for up 1 0) (before_by up b') b' a (after_by up a)
fitting true b' a = tt
fitting false b' a = (refl, refl)

-- the step to a compound fits
laying : (link : Combinator) (links : List Combinator) (mids : List SlotStep) → Pending (link ∷ links) mids → LinkFits link (mids ++ step_for (goes_up link) 1 0 ∷ [])
laying link links mids p = lay link links mids 1 0 p (λ e. refl)

-- the last slot has none behind it, where a step up leads to it
last_after_by : (up : Bool) (a : ℕ) (ss : List Laid) → (is_parent (steps_of ss) (length ss) ≡ true → get_or (after_by up a ∷ map (λ s. s.after) ss) (length ss) 0 ≡ 0) →
    is_parent (step_for up 1 0 ∷ steps_of ss) (suc (length ss)) ≡ true → get_or (a ∷ after_by up a ∷ map (λ s. s.after) ss) (suc (length ss)) 0 ≡ 0
last_after_by true a [] rest parent = refl
last_after_by false a [] rest parent = absurd (false≢true parent)
last_after_by up a (s ∷ ss) rest parent = rest parent

-- a compound of the left selector
put_left : (l : Combinator) (xl yl : List Combinator) (v : Nodes) (mx my : List SlotStep) (a b : ℕ) (slots : List Laid) → v left_alone 1 0 ≡ true → Pending (l ∷ xl) mx →
    Strolled xl yl (λ k i j. v k (suc i) j) [] (my ++ step_for (goes_up l) 1 0 ∷ []) (after_by (goes_up l) a) b slots →
    Strolled (l ∷ xl) yl v mx my a (before_by (goes_up l) b) (one_more left_alone a (goes_up l) b ∷ slots)
put_left l xl [] v mx my a b slots t p rest = record {
  left = (laying l xl mx p, rest.left);
  right = (refl, rest.right);
  counts = (fitting (goes_up l) b a, rest.counts);
  on = (t, rest.on);
  last_before = rest.last_before;
  last_after = last_after_by (goes_up l) a slots rest.last_after;
}
put_left l xl (m ∷ yl) v mx my a b slots t p rest = record {
  left = (laying l xl mx p, rest.left);
  right = rest.right;
  counts = (fitting (goes_up l) b a, rest.counts);
  on = (t, rest.on);
  last_before = rest.last_before;
  last_after = last_after_by (goes_up l) a slots rest.last_after;
}

-- a compound of the right one
put_right : (m : Combinator) (xl yl : List Combinator) (v : Nodes) (mx my : List SlotStep) (a b : ℕ) (slots : List Laid) → v right_alone 0 1 ≡ true → Pending (m ∷ yl) my →
    Strolled xl yl (λ k i j. v k i (suc j)) (mx ++ step_for (goes_up m) 1 0 ∷ []) [] (after_by (goes_up m) a) b slots →
    Strolled xl (m ∷ yl) v mx my a (before_by (goes_up m) b) (one_more right_alone a (goes_up m) b ∷ slots)
put_right m [] yl v mx my a b slots t p rest = record {
  left = (refl, rest.left);
  right = (laying m yl my p, rest.right);
  counts = (fitting (goes_up m) b a, rest.counts);
  on = (t, rest.on);
  last_before = rest.last_before;
  last_after = last_after_by (goes_up m) a slots rest.last_after;
}
put_right m (l ∷ xl) yl v mx my a b slots t p rest = record {
  left = rest.left;
  right = (laying m yl my p, rest.right);
  counts = (fitting (goes_up m) b a, rest.counts);
  on = (t, rest.on);
  last_before = rest.last_before;
  last_after = last_after_by (goes_up m) a slots rest.last_after;
}

-- a compound of each
put_both : (l m : Combinator) (xl yl : List Combinator) (v : Nodes) (mx my : List SlotStep) (a b : ℕ) (slots : List Laid) → v together 1 1 ≡ true → goes_up l ≡ goes_up m → Pending (l ∷ xl) mx → Pending (m ∷ yl) my →
    Strolled xl yl (λ k i j. v k (suc i) (suc j)) [] [] (after_by (goes_up l) a) b slots →
    Strolled (l ∷ xl) (m ∷ yl) v mx my a (before_by (goes_up l) b) (one_more together a (goes_up l) b ∷ slots)
put_both l m xl yl v mx my a b slots t same p q rest = record {
  left = (laying l xl mx p, rest.left);
  right = (subst (λ up. LinkFits m (my ++ step_for up 1 0 ∷ [])) (sym same) (laying m yl my q), rest.right);
  counts = (fitting (goes_up l) b a, rest.counts);
  on = (t, rest.on);
  last_before = rest.last_before;
  last_after = last_after_by (goes_up l) a slots rest.last_after;
}

-- whether a step goes up
risen : (up : Bool) (b b' : ℕ) → is_up (step_for up b b') ≡ up
risen true b b' = refl
risen false b b' = by (b == suc b')
  where
    by : (e : Bool) → is_up (if e then NextTo else Further) ≡ false
    by true = refl
    by false = refl

-- a slot along the true nodes, by the node that follows
abbrev StrollsOn : List Combinator → List Combinator → Nodes → List SlotStep → List SlotStep → ℕ → List Laid → Type 0
StrollsOn xl yl v mx my a ss = Strolled xl yl v mx my a (row_before ss) (numbered a ss)

-- a slot whose step goes up where its compound does
renumber : (xl yl : List Combinator) (v : Nodes) (mx my : List SlotStep) (a : ℕ) (k : Lays) (up : Bool) (b b' c : ℕ) (ss : List Laid) →
    Strolled xl yl v mx my a (before_by up (row_before ss)) (one_more k a up (row_before ss) ∷ numbered (after_by up a) ss) →
    StrollsOn xl yl v mx my a (record { step = step_for up b b'; lays = k; before = b'; after = c } ∷ ss)
renumber xl yl v mx my a k up b b' c ss = subst (λ up. Strolled xl yl v mx my a (before_by up (row_before ss)) (one_more k a up (row_before ss) ∷ numbered (after_by up a) ss)) (sym (risen up b b'))

-- the whole walk
pub stroll : (n : ℕ) (xl yl : List Combinator) (v : Nodes) (bx ax by ay : ℕ → ℕ) (kind : Lays) (mx my : List SlotStep) (a b : ℕ) → length xl + length yl ≤ n → Grid xl yl v → v kind 0 0 ≡ true → Pending xl mx → Pending yl my →
    StrollsOn xl yl v mx my a (slots_from n xl yl v bx ax by ay 0 0 b)
stroll zero [] [] v bx ax by ay kind mx my a b enough g t p q = record { left = refl; right = refl; counts = tt; on = tt; last_before = refl; last_after = λ parent. absurd (false≢true parent) }
stroll (suc n) [] [] v bx ax by ay kind mx my a b enough g t p q = record { left = refl; right = refl; counts = tt; on = tt; last_before = refl; last_after = λ parent. absurd (false≢true parent) }
stroll zero (l ∷ xl) yl v bx ax by ay kind mx my a b enough g t p q = absurd (omega arith)
stroll zero [] (m ∷ yl) v bx ax by ay kind mx my a b enough g t p q = absurd (omega arith)
stroll (suc n) (l ∷ xl) [] v bx ax by ay kind mx my a b enough g t p q = elim (way (l ∷ xl) [] v kind 0 0 g t (omega arith) (omega arith) (omega arith)) [
  | to_left e h u ↦ subst (λ o. StrollsOn (l ∷ xl) [] v mx my a (laid_next o (laid_by n (l ∷ xl) [] v bx ax by ay b))) (sym e)
      (subst (λ ss. StrollsOn (l ∷ xl) [] v mx my a (slot_at (l ∷ xl) [] bx ax by ay left_alone 1 0 b ∷ ss)) (sym (slots_left n l xl [] v bx ax by ay 0 0 (bx 1)))
      (renumber (l ∷ xl) [] v mx my a left_alone (goes_up l) b (bx 1) (ax 1) _
      (put_left l xl [] v mx my a _ _ u p (stroll n xl [] (λ k i j. v k (suc i) j) (shift bx) (shift ax) by ay left_alone [] (my ++ step_for (goes_up l) 1 0 ∷ []) (after_by (goes_up l) a) (bx 1) (omega arith) (grid_left l xl [] v g) u (pending_none xl) tt))))
  | to_right e h u ↦ absurd (omega arith)
  | to_both e h h' u ↦ absurd (omega arith)
]
stroll (suc n) [] (m ∷ yl) v bx ax by ay kind mx my a b enough g t p q = elim (way [] (m ∷ yl) v kind 0 0 g t (omega arith) (omega arith) (omega arith)) [
  | to_left e h u ↦ absurd (omega arith)
  | to_right e h u ↦ subst (λ o. StrollsOn [] (m ∷ yl) v mx my a (laid_next o (laid_by n [] (m ∷ yl) v bx ax by ay b))) (sym e)
      (subst (λ ss. StrollsOn [] (m ∷ yl) v mx my a (slot_at [] (m ∷ yl) bx ax by ay right_alone 0 1 b ∷ ss)) (sym (slots_right n m [] yl v bx ax by ay 0 0 (by 1)))
      (renumber [] (m ∷ yl) v mx my a right_alone (goes_up m) b (by 1) (ay 1) _
      (put_right m [] yl v mx my a _ _ u q (stroll n [] yl (λ k i j. v k i (suc j)) bx ax (shift by) (shift ay) right_alone (mx ++ step_for (goes_up m) 1 0 ∷ []) [] (after_by (goes_up m) a) (by 1) (omega arith) (grid_right m [] yl v g) u tt (pending_none yl)))))
  | to_both e h h' u ↦ absurd (omega arith)
]
stroll (suc n) (l ∷ xl) (m ∷ yl) v bx ax by ay kind mx my a b enough g t p q = elim (way (l ∷ xl) (m ∷ yl) v kind 0 0 g t (omega arith) (omega arith) (omega arith)) [
  | to_left e h u ↦ subst (λ o. StrollsOn (l ∷ xl) (m ∷ yl) v mx my a (laid_next o (laid_by n (l ∷ xl) (m ∷ yl) v bx ax by ay b))) (sym e)
      (subst (λ ss. StrollsOn (l ∷ xl) (m ∷ yl) v mx my a (slot_at (l ∷ xl) (m ∷ yl) bx ax by ay left_alone 1 0 b ∷ ss)) (sym (slots_left n l xl (m ∷ yl) v bx ax by ay 0 0 (bx 1)))
      (renumber (l ∷ xl) (m ∷ yl) v mx my a left_alone (goes_up l) b (bx 1) (ax 1) _
      (put_left l xl (m ∷ yl) v mx my a _ _ u p (stroll n xl (m ∷ yl) (λ k i j. v k (suc i) j) (shift bx) (shift ax) by ay left_alone [] (my ++ step_for (goes_up l) 1 0 ∷ []) (after_by (goes_up l) a) (bx 1) (omega arith) (grid_left l xl (m ∷ yl) v g) u
      (pending_none xl) (wait (m ∷ yl) (goes_up l) my 1 0 q (g.left 0 0 (omega arith) (omega arith) u))))))
  | to_right e h u ↦ subst (λ o. StrollsOn (l ∷ xl) (m ∷ yl) v mx my a (laid_next o (laid_by n (l ∷ xl) (m ∷ yl) v bx ax by ay b))) (sym e)
      (subst (λ ss. StrollsOn (l ∷ xl) (m ∷ yl) v mx my a (slot_at (l ∷ xl) (m ∷ yl) bx ax by ay right_alone 0 1 b ∷ ss)) (sym (slots_right n m (l ∷ xl) yl v bx ax by ay 0 0 (by 1)))
      (renumber (l ∷ xl) (m ∷ yl) v mx my a right_alone (goes_up m) b (by 1) (ay 1) _
      (put_right m (l ∷ xl) yl v mx my a _ _ u q (stroll n (l ∷ xl) yl (λ k i j. v k i (suc j)) bx ax (shift by) (shift ay) right_alone (mx ++ step_for (goes_up m) 1 0 ∷ []) [] (after_by (goes_up m) a) (by 1) (omega arith) (grid_right m (l ∷ xl) yl v g) u
      (wait (l ∷ xl) (goes_up m) mx 1 0 p (g.right 0 0 (omega arith) (omega arith) u)) (pending_none yl)))))
  | to_both e h h' u ↦ subst (λ o. StrollsOn (l ∷ xl) (m ∷ yl) v mx my a (laid_next o (laid_by n (l ∷ xl) (m ∷ yl) v bx ax by ay b))) (sym e)
      (subst (λ ss. StrollsOn (l ∷ xl) (m ∷ yl) v mx my a (slot_at (l ∷ xl) (m ∷ yl) bx ax by ay together 1 1 b ∷ ss))
      (sym (slots_left n l xl (m ∷ yl) v bx ax by ay 0 1 (bx 1) ∙ slots_right n m xl yl (λ k i j. v k (suc i) j) (shift bx) (shift ax) by ay 0 0 (bx 1)))
      (renumber (l ∷ xl) (m ∷ yl) v mx my a together (goes_up l) b (bx 1) (ax 1) _
      (put_both l m xl yl v mx my a _ _ u (g.both 0 0 (omega arith) (omega arith) u) p q
      (stroll n xl yl (λ k i j. v k (suc i) (suc j)) (shift bx) (shift ax) (shift by) (shift ay) together [] [] (after_by (goes_up l) a) (bx 1) (omega arith) (grid_right m xl yl (λ k i j. v k (suc i) j) (grid_left l xl (m ∷ yl) v g)) u (pending_none xl) (pending_none yl)))))
]
