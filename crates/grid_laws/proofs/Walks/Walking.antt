-- A walk from the first slot to the last one.
use Rattle.std.proofs.Common.{List, [], arith, false, inl, inr, length, map, refl, subst, suc, sym, true, zero, ℕ, ◌++◌, ◌+◌, ◌<◌, ◌∙◌, ◌∷◌, ◌≡◌, ◌≤◌}
use Rattle.std.proofs.lemmas.Bool.{false≢true}
use Rattle.css_model.specs.declared.selector.Combinator.{Combinator}
use Rattle.css_model.specs.declared.selector.Combinator.TheVariants.{Next}
use Rattle.grid_laws.proofs.Walks.Going.{laid_by, shift, slots_left, slots_right, to_both, to_left, to_right, way}
use Rattle.grid_laws.proofs.Walks.Laid.{NumbersAt, On, WalkFits}
use Rattle.grid_laws.proofs.Walks.Pending.{Side, advance, begin, counts, lay, stay}
use Rattle.grid_laws.specs.Grid.{Grid, Lays, Nodes, goes_up, has_left, has_right, left_alone, right_alone, together}
use Rattle.grid_laws.specs.Numbers.{Counted}
use Rattle.grid_laws.specs.Slots.{Laid, laid_next, slot_at, slots_from, step_for}
use Rattle.slot_plan.specs.Counts.{CountsFit, StepCounts}
use Rattle.slot_plan.specs.Steps.{LinkFits}
use Rattle.slot_plan.specs.declared.shape.SlotStep.{SlotStep}

-- what holds of the slots that a walk lays
pub record Walked (xl yl : List Combinator) (v : Nodes) (bx ax by ay : ℕ → ℕ) (mx my : List SlotStep) (b a : ℕ) (slots : List Laid) : Type 0 where
  pub left : WalkFits has_left xl mx slots
  pub right : WalkFits has_right yl my slots
  pub counts : CountsFit (map (λ s. s.step) slots) (b ∷ map (λ s. s.before) slots) (a ∷ map (λ s. s.after) slots)
  pub left_numbers : NumbersAt has_left (λ i. bx (suc i)) (λ i. ax (suc i)) slots
  pub right_numbers : NumbersAt has_right (λ i. by (suc i)) (λ i. ay (suc i)) slots
  pub on : On v slots

lay_left : (link : Combinator) (xl yl : List Combinator) (v : Nodes) (bx ax by ay : ℕ → ℕ) (mx my : List SlotStep) (b a : ℕ) (slots : List Laid) →
    v left_alone 1 0 ≡ true → LinkFits link (mx ++ step_for (goes_up link) b (bx 1) ∷ []) → StepCounts (step_for (goes_up link) b (bx 1)) b (bx 1) a (ax 1) →
    Walked xl yl (λ k i j. v k (suc i) j) (shift bx) (shift ax) by ay [] (my ++ step_for (goes_up link) b (bx 1) ∷ []) (bx 1) (ax 1) slots →
    Walked (link ∷ xl) yl v bx ax by ay mx my b a (record { step = step_for (goes_up link) b (bx 1); lays = left_alone; before = bx 1; after = ax 1 } ∷ slots)
lay_left link xl [] v bx ax by ay mx my b a slots t fit step rest = record {
  left = (fit, rest.left);
  right = (refl, rest.right);
  counts = (step, rest.counts);
  left_numbers = (refl, refl, rest.left_numbers);
  right_numbers = rest.right_numbers;
  on = (t, rest.on);
}
lay_left link xl (m ∷ yl) v bx ax by ay mx my b a slots t fit step rest = record {
  left = (fit, rest.left);
  right = rest.right;
  counts = (step, rest.counts);
  left_numbers = (refl, refl, rest.left_numbers);
  right_numbers = rest.right_numbers;
  on = (t, rest.on);
}

lay_right : (link : Combinator) (xl yl : List Combinator) (v : Nodes) (bx ax by ay : ℕ → ℕ) (mx my : List SlotStep) (b a : ℕ) (slots : List Laid) →
    v right_alone 0 1 ≡ true → LinkFits link (my ++ step_for (goes_up link) b (by 1) ∷ []) → StepCounts (step_for (goes_up link) b (by 1)) b (by 1) a (ay 1) →
    Walked xl yl (λ k i j. v k i (suc j)) bx ax (shift by) (shift ay) (mx ++ step_for (goes_up link) b (by 1) ∷ []) [] (by 1) (ay 1) slots →
    Walked xl (link ∷ yl) v bx ax by ay mx my b a (record { step = step_for (goes_up link) b (by 1); lays = right_alone; before = by 1; after = ay 1 } ∷ slots)
lay_right link [] yl v bx ax by ay mx my b a slots t fit step rest = record {
  left = (refl, rest.left);
  right = (fit, rest.right);
  counts = (step, rest.counts);
  left_numbers = rest.left_numbers;
  right_numbers = (refl, refl, rest.right_numbers);
  on = (t, rest.on);
}
lay_right link (m ∷ xl) yl v bx ax by ay mx my b a slots t fit step rest = record {
  left = rest.left;
  right = (fit, rest.right);
  counts = (step, rest.counts);
  left_numbers = rest.left_numbers;
  right_numbers = (refl, refl, rest.right_numbers);
  on = (t, rest.on);
}

lay_both : (l m : Combinator) (xl yl : List Combinator) (v : Nodes) (bx ax by ay : ℕ → ℕ) (mx my : List SlotStep) (b a : ℕ) (slots : List Laid) →
    v together 1 1 ≡ true → bx 1 ≡ by 1 → ax 1 ≡ ay 1 →
    LinkFits l (mx ++ step_for (goes_up l) b (bx 1) ∷ []) → LinkFits m (my ++ step_for (goes_up l) b (bx 1) ∷ []) → StepCounts (step_for (goes_up l) b (bx 1)) b (bx 1) a (ax 1) →
    Walked xl yl (λ k i j. v k (suc i) (suc j)) (shift bx) (shift ax) (shift by) (shift ay) [] [] (bx 1) (ax 1) slots →
    Walked (l ∷ xl) (m ∷ yl) v bx ax by ay mx my b a (record { step = step_for (goes_up l) b (bx 1); lays = together; before = bx 1; after = ax 1 } ∷ slots)
lay_both l m xl yl v bx ax by ay mx my b a slots t eb ea fit fit' step rest = record {
  left = (fit, rest.left);
  right = (fit', rest.right);
  counts = (step, rest.counts);
  left_numbers = (refl, refl, rest.left_numbers);
  right_numbers = (eb, ea, rest.right_numbers);
  on = (t, rest.on);
}

-- the grid and the numbers behind the next compound
pub grid_left : (l : Combinator) (xl yl : List Combinator) (v : Nodes) → Grid (l ∷ xl) yl v → Grid xl yl (λ k i j. v k (suc i) j)
grid_left l xl yl v g = record {
  go = λ k i j t hi hj more. elim (g.go k (suc i) j t (omega arith) hj (omega arith)) [
    | inl way ↦ inl ((let h = way.0 in omega arith), way.1)
    | inr rest ↦ elim rest [ inl way ↦ inr (inl way) | inr way ↦ inr (inr ((let h = way.0 in omega arith), way.1, way.2)) ]
  ];
  left = λ i j hi hj t. g.left (suc i) j (omega arith) hj t;
  right = λ i j hi hj t. g.right (suc i) j (omega arith) hj t;
  both = λ i j hi hj t. g.both (suc i) j (omega arith) hj t;
}

pub grid_right : (m : Combinator) (xl yl : List Combinator) (v : Nodes) → Grid xl (m ∷ yl) v → Grid xl yl (λ k i j. v k i (suc j))
grid_right m xl yl v g = record {
  go = λ k i j t hi hj more. elim (g.go k i (suc j) t hi (omega arith) (omega arith)) [
    | inl way ↦ inl way
    | inr rest ↦ elim rest [ inl way ↦ inr (inl ((let h = way.0 in omega arith), way.1)) | inr way ↦ inr (inr (way.0, (let h = way.1 in omega arith), way.2)) ]
  ];
  left = λ i j hi hj t. g.left i (suc j) hi (omega arith) t;
  right = λ i j hi hj t. g.right i (suc j) hi (omega arith) t;
  both = λ i j hi hj t. g.both i (suc j) hi (omega arith) t;
}

counted_left : (l : Combinator) (xl yl : List Combinator) (v : Nodes) (bx ax by ay : ℕ → ℕ) → Counted (l ∷ xl) yl v bx ax by ay → Counted xl yl (λ k i j. v k (suc i) j) (shift bx) (shift ax) by ay
counted_left l xl yl v bx ax by ay c = record {
  run_left = c.run_left.1;
  run_right = c.run_right;
  equal = λ i j hi hj t. c.equal (suc i) j (omega arith) hj t;
  order_left = λ i j hi hj t u h. c.order_left (suc i) j (omega arith) hj t u h;
  order_right = λ i j hi hj t u h. c.order_right (suc i) j (omega arith) hj t u h;
}

counted_right : (m : Combinator) (xl yl : List Combinator) (v : Nodes) (bx ax by ay : ℕ → ℕ) → Counted xl (m ∷ yl) v bx ax by ay → Counted xl yl (λ k i j. v k i (suc j)) bx ax (shift by) (shift ay)
counted_right m xl yl v bx ax by ay c = record {
  run_left = c.run_left;
  run_right = c.run_right.1;
  equal = λ i j hi hj t. c.equal i (suc j) hi (omega arith) t;
  order_left = λ i j hi hj t u h. c.order_left i (suc j) hi (omega arith) t u h;
  order_right = λ i j hi hj t u h. c.order_right i (suc j) hi (omega arith) t u h;
}

step_left : (l : Combinator) (xl yl : List Combinator) (v : Nodes) (bx ax by ay : ℕ → ℕ) (kind : Lays) (mx my : List SlotStep) (b a : ℕ) (slots : List Laid) →
    Grid (l ∷ xl) yl v → Counted (l ∷ xl) yl v bx ax by ay → v kind 0 0 ≡ true → v left_alone 1 0 ≡ true →
    Side (has_left kind) (l ∷ xl) mx (bx 0) (ax 0) b a → Side (has_right kind) yl my (by 0) (ay 0) b a →
    (Side true xl [] (bx 1) (ax 1) (bx 1) (ax 1) → Side false yl (my ++ step_for (goes_up l) b (bx 1) ∷ []) (by 0) (ay 0) (bx 1) (ax 1) →
    Walked xl yl (λ k i j. v k (suc i) j) (shift bx) (shift ax) by ay [] (my ++ step_for (goes_up l) b (bx 1) ∷ []) (bx 1) (ax 1) slots) →
    Walked (l ∷ xl) yl v bx ax by ay mx my b a (slot_at (l ∷ xl) yl bx ax by ay left_alone 1 0 b ∷ slots)
step_left l xl yl v bx ax by ay kind mx my b a slots g c t u sx sy rest =
    let key = advance (has_left kind) l xl mx (bx 0) (ax 0) (bx 1) (ax 1) b a sx c.run_left.0 (less kind t sy) in
    lay_left l xl yl v bx ax by ay mx my b a slots u
    (lay l xl mx b (bx 1) sx.pending key.1)
    (counts (goes_up l) b (bx 1) a (ax 1) key.0)
    (rest (begin xl (bx 1) (ax 1)) (stay (has_right kind) yl my (by 0) (ay 0) b a (bx 1) (ax 1) (goes_up l) sy (g.left 0 0 (omega arith) (omega arith) u) (λ h. (key.0 h).1)))
  where
    less : (kind : Lays) → v kind 0 0 ≡ true → Side (has_right kind) yl my (by 0) (ay 0) b a → has_left kind ≡ false → goes_up l ≡ false → bx 1 < b
    less left_alone t sy none h = absurd (false≢true (sym none))
    less together t sy none h = absurd (false≢true (sym none))
    less right_alone t sy none h = let at = sy.here refl in let w = c.order_left 0 0 (omega arith) (omega arith) t u h in omega (arith, at, w)

step_right : (m : Combinator) (xl yl : List Combinator) (v : Nodes) (bx ax by ay : ℕ → ℕ) (kind : Lays) (mx my : List SlotStep) (b a : ℕ) (slots : List Laid) →
    Grid xl (m ∷ yl) v → Counted xl (m ∷ yl) v bx ax by ay → v kind 0 0 ≡ true → v right_alone 0 1 ≡ true →
    Side (has_left kind) xl mx (bx 0) (ax 0) b a → Side (has_right kind) (m ∷ yl) my (by 0) (ay 0) b a →
    (Side false xl (mx ++ step_for (goes_up m) b (by 1) ∷ []) (bx 0) (ax 0) (by 1) (ay 1) → Side true yl [] (by 1) (ay 1) (by 1) (ay 1) →
    Walked xl yl (λ k i j. v k i (suc j)) bx ax (shift by) (shift ay) (mx ++ step_for (goes_up m) b (by 1) ∷ []) [] (by 1) (ay 1) slots) →
    Walked xl (m ∷ yl) v bx ax by ay mx my b a (slot_at xl (m ∷ yl) bx ax by ay right_alone 0 1 b ∷ slots)
step_right m xl yl v bx ax by ay kind mx my b a slots g c t u sx sy rest =
    let key = advance (has_right kind) m yl my (by 0) (ay 0) (by 1) (ay 1) b a sy c.run_right.0 (less kind t sx) in
    lay_right m xl yl v bx ax by ay mx my b a slots u
    (lay m yl my b (by 1) sy.pending key.1)
    (counts (goes_up m) b (by 1) a (ay 1) key.0)
    (rest (stay (has_left kind) xl mx (bx 0) (ax 0) b a (by 1) (ay 1) (goes_up m) sx (g.right 0 0 (omega arith) (omega arith) u) (λ h. (key.0 h).1)) (begin yl (by 1) (ay 1)))
  where
    less : (kind : Lays) → v kind 0 0 ≡ true → Side (has_left kind) xl mx (bx 0) (ax 0) b a → has_right kind ≡ false → goes_up m ≡ false → by 1 < b
    less right_alone t sx none h = absurd (false≢true (sym none))
    less together t sx none h = absurd (false≢true (sym none))
    less left_alone t sx none h = let at = sx.here refl in let w = c.order_right 0 0 (omega arith) (omega arith) t u h in omega (arith, at, w)

step_both : (l m : Combinator) (xl yl : List Combinator) (v : Nodes) (bx ax by ay : ℕ → ℕ) (kind : Lays) (mx my : List SlotStep) (b a : ℕ) (slots : List Laid) →
    Grid (l ∷ xl) (m ∷ yl) v → Counted (l ∷ xl) (m ∷ yl) v bx ax by ay → v together 1 1 ≡ true →
    Side (has_left kind) (l ∷ xl) mx (bx 0) (ax 0) b a → Side (has_right kind) (m ∷ yl) my (by 0) (ay 0) b a →
    (Side true xl [] (bx 1) (ax 1) (bx 1) (ax 1) → Side true yl [] (by 1) (ay 1) (bx 1) (ax 1) →
    Walked xl yl (λ k i j. v k (suc i) (suc j)) (shift bx) (shift ax) (shift by) (shift ay) [] [] (bx 1) (ax 1) slots) →
    Walked (l ∷ xl) (m ∷ yl) v bx ax by ay mx my b a (slot_at (l ∷ xl) (m ∷ yl) bx ax by ay together 1 1 b ∷ slots)
step_both l m xl yl v bx ax by ay kind mx my b a slots g c u sx sy rest =
    let e = c.equal 1 1 (omega arith) (omega arith) u in
    let key = keys kind sx sy in
    let dir : goes_up l ≡ goes_up m = g.both 0 0 (omega arith) (omega arith) u in
    lay_both l m xl yl v bx ax by ay mx my b a slots u e.0 e.1
    (lay l xl mx b (bx 1) sx.pending key.1)
    (subst (λ up. LinkFits m (my ++ step_for up b (bx 1) ∷ [])) (sym dir) (lay m yl my b (bx 1) sy.pending key.2))
    (counts (goes_up l) b (bx 1) a (ax 1) key.0)
    (rest (begin xl (bx 1) (ax 1)) (subst (λ (n : ℕ). Side true yl [] (by 1) (ay 1) n (ax 1)) (sym e.0) (subst (λ (n : ℕ). Side true yl [] (by 1) (ay 1) (by 1) n) (sym e.1) (begin yl (by 1) (ay 1)))))
  where
    keys : (kind : Lays) → Side (has_left kind) (l ∷ xl) mx (bx 0) (ax 0) b a → Side (has_right kind) (m ∷ yl) my (by 0) (ay 0) b a →
        (goes_up l ≡ false → (bx 1 < b) × (bx 1 + ax 1 ≡ b + a)) × (l ≡ Next → b ≡ suc (bx 1)) × (m ≡ Next → b ≡ suc (bx 1))
    keys left_alone sx sy =
        let kx = advance true l xl mx (bx 0) (ax 0) (bx 1) (ax 1) b a sx c.run_left.0 (λ h. absurd (false≢true (sym h))) in
        let ky = advance false m yl my (by 0) (ay 0) (by 1) (ay 1) b a sy c.run_right.0 (λ _ h. let w = kx.0 (g.both 0 0 (omega arith) (omega arith) u ∙ h) in let e = c.equal 1 1 (omega arith) (omega arith) u in omega (arith, w, e)) in
        (kx.0, kx.1, λ h. let e = c.equal 1 1 (omega arith) (omega arith) u in let w = ky.1 h in omega (arith, w, e))
    keys together sx sy =
        let kx = advance true l xl mx (bx 0) (ax 0) (bx 1) (ax 1) b a sx c.run_left.0 (λ h. absurd (false≢true (sym h))) in
        let ky = advance true m yl my (by 0) (ay 0) (by 1) (ay 1) b a sy c.run_right.0 (λ h. absurd (false≢true (sym h))) in
        (kx.0, kx.1, λ h. let e = c.equal 1 1 (omega arith) (omega arith) u in let w = ky.1 h in omega (arith, w, e))
    keys right_alone sx sy =
        let ky = advance true m yl my (by 0) (ay 0) (by 1) (ay 1) b a sy c.run_right.0 (λ h. absurd (false≢true (sym h))) in
        let kx = advance false l xl mx (bx 0) (ax 0) (bx 1) (ax 1) b a sx c.run_left.0 (λ _ h. let w = ky.0 (sym (g.both 0 0 (omega arith) (omega arith) u) ∙ h) in let e = c.equal 1 1 (omega arith) (omega arith) u in omega (arith, w, e)) in
        (kx.0, kx.1, λ h. let e = c.equal 1 1 (omega arith) (omega arith) u in let w = ky.1 h in omega (arith, w, e))

-- the slots along the true nodes
pub walk : (n : ℕ) (xl yl : List Combinator) (v : Nodes) (bx ax by ay : ℕ → ℕ) (kind : Lays) (mx my : List SlotStep) (b a : ℕ) → length xl + length yl ≤ n →
    Grid xl yl v → Counted xl yl v bx ax by ay → v kind 0 0 ≡ true →
    Side (has_left kind) xl mx (bx 0) (ax 0) b a → Side (has_right kind) yl my (by 0) (ay 0) b a → Walked xl yl v bx ax by ay mx my b a (slots_from n xl yl v bx ax by ay 0 0 b)
walk zero [] [] v bx ax by ay kind mx my b a enough g c t sx sy = record { left = refl; right = refl; counts = tt; left_numbers = tt; right_numbers = tt; on = tt }
walk (suc n) [] [] v bx ax by ay kind mx my b a enough g c t sx sy = record { left = refl; right = refl; counts = tt; left_numbers = tt; right_numbers = tt; on = tt }
walk zero (l ∷ xl) yl v bx ax by ay kind mx my b a enough g c t sx sy = absurd (omega arith)
walk zero [] (m ∷ yl) v bx ax by ay kind mx my b a enough g c t sx sy = absurd (omega arith)
walk (suc n) (l ∷ xl) [] v bx ax by ay kind mx my b a enough g c t sx sy = elim (way (l ∷ xl) [] v kind 0 0 g t (omega arith) (omega arith) (omega arith)) [
  | to_left e h u ↦ subst (λ o. Walked (l ∷ xl) [] v bx ax by ay mx my b a (laid_next o (laid_by n (l ∷ xl) [] v bx ax by ay b))) (sym e)
      (subst (λ ss. Walked (l ∷ xl) [] v bx ax by ay mx my b a (slot_at (l ∷ xl) [] bx ax by ay left_alone 1 0 b ∷ ss)) (sym (slots_left n l xl [] v bx ax by ay 0 0 (bx 1)))
      (step_left l xl [] v bx ax by ay kind mx my b a _ g c t u sx sy
      (walk n xl [] (λ k i j. v k (suc i) j) (shift bx) (shift ax) by ay left_alone [] (my ++ step_for (goes_up l) b (bx 1) ∷ []) (bx 1) (ax 1) (omega arith) (grid_left l xl [] v g) (counted_left l xl [] v bx ax by ay c) u)))
  | to_right e h u ↦ absurd (omega arith)
  | to_both e h h' u ↦ absurd (omega arith)
]
walk (suc n) [] (m ∷ yl) v bx ax by ay kind mx my b a enough g c t sx sy = elim (way [] (m ∷ yl) v kind 0 0 g t (omega arith) (omega arith) (omega arith)) [
  | to_left e h u ↦ absurd (omega arith)
  | to_right e h u ↦ subst (λ o. Walked [] (m ∷ yl) v bx ax by ay mx my b a (laid_next o (laid_by n [] (m ∷ yl) v bx ax by ay b))) (sym e)
      (subst (λ ss. Walked [] (m ∷ yl) v bx ax by ay mx my b a (slot_at [] (m ∷ yl) bx ax by ay right_alone 0 1 b ∷ ss)) (sym (slots_right n m [] yl v bx ax by ay 0 0 (by 1)))
      (step_right m [] yl v bx ax by ay kind mx my b a _ g c t u sx sy
      (walk n [] yl (λ k i j. v k i (suc j)) bx ax (shift by) (shift ay) right_alone (mx ++ step_for (goes_up m) b (by 1) ∷ []) [] (by 1) (ay 1) (omega arith) (grid_right m [] yl v g) (counted_right m [] yl v bx ax by ay c) u)))
  | to_both e h h' u ↦ absurd (omega arith)
]
walk (suc n) (l ∷ xl) (m ∷ yl) v bx ax by ay kind mx my b a enough g c t sx sy = elim (way (l ∷ xl) (m ∷ yl) v kind 0 0 g t (omega arith) (omega arith) (omega arith)) [
  | to_left e h u ↦ subst (λ o. Walked (l ∷ xl) (m ∷ yl) v bx ax by ay mx my b a (laid_next o (laid_by n (l ∷ xl) (m ∷ yl) v bx ax by ay b))) (sym e)
      (subst (λ ss. Walked (l ∷ xl) (m ∷ yl) v bx ax by ay mx my b a (slot_at (l ∷ xl) (m ∷ yl) bx ax by ay left_alone 1 0 b ∷ ss)) (sym (slots_left n l xl (m ∷ yl) v bx ax by ay 0 0 (bx 1)))
      (step_left l xl (m ∷ yl) v bx ax by ay kind mx my b a _ g c t u sx sy
      (walk n xl (m ∷ yl) (λ k i j. v k (suc i) j) (shift bx) (shift ax) by ay left_alone [] (my ++ step_for (goes_up l) b (bx 1) ∷ []) (bx 1) (ax 1) (omega arith) (grid_left l xl (m ∷ yl) v g) (counted_left l xl (m ∷ yl) v bx ax by ay c) u)))
  | to_right e h u ↦ subst (λ o. Walked (l ∷ xl) (m ∷ yl) v bx ax by ay mx my b a (laid_next o (laid_by n (l ∷ xl) (m ∷ yl) v bx ax by ay b))) (sym e)
      (subst (λ ss. Walked (l ∷ xl) (m ∷ yl) v bx ax by ay mx my b a (slot_at (l ∷ xl) (m ∷ yl) bx ax by ay right_alone 0 1 b ∷ ss)) (sym (slots_right n m (l ∷ xl) yl v bx ax by ay 0 0 (by 1)))
      (step_right m (l ∷ xl) yl v bx ax by ay kind mx my b a _ g c t u sx sy
      (walk n (l ∷ xl) yl (λ k i j. v k i (suc j)) bx ax (shift by) (shift ay) right_alone (mx ++ step_for (goes_up m) b (by 1) ∷ []) [] (by 1) (ay 1) (omega arith) (grid_right m (l ∷ xl) yl v g) (counted_right m (l ∷ xl) yl v bx ax by ay c) u)))
  | to_both e h h' u ↦ subst (λ o. Walked (l ∷ xl) (m ∷ yl) v bx ax by ay mx my b a (laid_next o (laid_by n (l ∷ xl) (m ∷ yl) v bx ax by ay b))) (sym e)
      (subst (λ ss. Walked (l ∷ xl) (m ∷ yl) v bx ax by ay mx my b a (slot_at (l ∷ xl) (m ∷ yl) bx ax by ay together 1 1 b ∷ ss))
      (sym (slots_left n l xl (m ∷ yl) v bx ax by ay 0 1 (bx 1) ∙ slots_right n m xl yl (λ k i j. v k (suc i) j) (shift bx) (shift ax) by ay 0 0 (bx 1)))
      (step_both l m xl yl v bx ax by ay kind mx my b a _ g c u sx sy
      (walk n xl yl (λ k i j. v k (suc i) (suc j)) (shift bx) (shift ax) (shift by) (shift ay) together [] [] (bx 1) (ax 1) (omega arith)
      (grid_right m xl yl (λ k i j. v k (suc i) j) (grid_left l xl (m ∷ yl) v g)) (counted_right m xl yl (λ k i j. v k (suc i) j) (shift bx) (shift ax) by ay (counted_left l xl (m ∷ yl) v bx ax by ay c)) u)))
]
