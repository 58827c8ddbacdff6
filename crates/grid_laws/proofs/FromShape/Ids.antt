-- The ids that a shape is asked for.
use Rattle.std.proofs.Common.{List, [], ap, arith, inl, inr, length, refl, subst, suc, sym, true, zero, ℕ, ◌++◌, ◌<◌, ◌∙◌, ◌∷◌, ◌≡◌, ◌≢◌, ◌≤◌, ◌⊎◌}
use Rattle.std.proofs.lemmas.Bool.{eqb-true, false≢true}
use Rattle.std.proofs.lemmas.List.Elements.{Contains-append_left, Contains-append_right, filter_map-append}
use Rattle.std.specs.List.{filter_map}
use Rattle.std.specs.Prelude.{Contains}
use Rattle.css_model.specs.Documents.SelectorParts.{SelectorParts}
use Rattle.grid_laws.proofs.FromShape.InNodes.{in_place, place_high}
use Rattle.grid_laws.proofs.FromShape.Nodes.{Opened}
use Rattle.grid_laws.proofs.Walks.Placed.{nodes_in, place_of}
use Rattle.grid_laws.specs.Grid.{Lays, has_left, has_right, left_alone, right_alone, together}
use Rattle.grid_laws.specs.Solved.{nth_compound}
use Rattle.slot_plan.specs.ShapeParts.{ShapeParts}
use Rattle.slot_plan.specs.ValidShape.{Ascend, ValidShape, asked_id, simples_at, simples_in}

-- what a compound has is in its slot
pub left_in_slot : (x y : SelectorParts) (shape : ShapeParts) (ps qs : List ℕ) → Opened x y shape ps qs → (i : ℕ) → i ≤ length x.links → simples_in x y shape (place_of 0 ps i) ≡ nth_compound x.chain i ++ simples_at y.chain shape.right (place_of 0 ps i)
left_in_slot x y shape ps qs o i hi =
    ap (λ l. simples_at x.chain l (place_of 0 ps i) ++ simples_at y.chain shape.right (place_of 0 ps i)) o.is_left
    ∙ ap (λ s. s ++ simples_at y.chain shape.right (place_of 0 ps i)) (in_place x.chain 0 ps i o.left.up (let e = o.length_left in let f = o.left.same in omega arith) (let f = o.left.same in omega arith))

pub left_asks : (x y : SelectorParts) (shape : ShapeParts) (ps qs : List ℕ) → Opened x y shape ps qs → (i : ℕ) (id : List ℕ) → i ≤ length x.links → Contains (filter_map asked_id (nth_compound x.chain i)) id → Contains (filter_map asked_id (simples_in x y shape (place_of 0 ps i))) id
left_asks x y shape ps qs o i id hi h =
    subst (λ s. Contains (filter_map asked_id s) id) (sym (left_in_slot x y shape ps qs o i hi))
    (subst (λ ids. Contains ids id) (sym (filter_map-append asked_id (nth_compound x.chain i) (simples_at y.chain shape.right (place_of 0 ps i))))
    (Contains-append_left (filter_map asked_id (nth_compound x.chain i)) (filter_map asked_id (simples_at y.chain shape.right (place_of 0 ps i))) id h))

pub right_in_slot : (x y : SelectorParts) (shape : ShapeParts) (ps qs : List ℕ) → Opened x y shape ps qs → (j : ℕ) → j ≤ length y.links → simples_in x y shape (place_of 0 qs j) ≡ simples_at x.chain shape.left (place_of 0 qs j) ++ nth_compound y.chain j
right_in_slot x y shape ps qs o j hj =
    ap (λ r. simples_at x.chain shape.left (place_of 0 qs j) ++ simples_at y.chain r (place_of 0 qs j)) o.is_right
    ∙ ap (λ s. simples_at x.chain shape.left (place_of 0 qs j) ++ s) (in_place y.chain 0 qs j o.right.up (let e = o.length_right in let f = o.right.same in omega arith) (let f = o.right.same in omega arith))

pub right_asks : (x y : SelectorParts) (shape : ShapeParts) (ps qs : List ℕ) → Opened x y shape ps qs → (j : ℕ) (id : List ℕ) → j ≤ length y.links → Contains (filter_map asked_id (nth_compound y.chain j)) id → Contains (filter_map asked_id (simples_in x y shape (place_of 0 qs j))) id
right_asks x y shape ps qs o j id hj h =
    subst (λ s. Contains (filter_map asked_id s) id) (sym (right_in_slot x y shape ps qs o j hj))
    (subst (λ ids. Contains ids id) (sym (filter_map-append asked_id (simples_at x.chain shape.left (place_of 0 qs j)) (nth_compound y.chain j)))
    (Contains-append_right (filter_map asked_id (simples_at x.chain shape.left (place_of 0 qs j))) (filter_map asked_id (nth_compound y.chain j)) id h))

-- slots rise
pub place_less : (p : ℕ) (ps : List ℕ) (i j : ℕ) → Ascend p ps → i < j → j ≤ length ps → place_of p ps i < place_of p ps j
place_less p ps i zero up h e = absurd (omega arith)
place_less p [] i (suc j) up h e = absurd (omega arith)
place_less p (q ∷ qs) zero (suc j) (less, up) h e = let w = place_high q qs j up in omega arith
place_less p (q ∷ qs) (suc i) (suc j) (less, up) h e = place_less q qs i j up (omega arith) (omega arith)

pub place_top : (p : ℕ) (ps : List ℕ) (i : ℕ) → Ascend p ps → place_of p ps i ≤ place_of p ps (length ps)
place_top p [] zero up = omega arith
place_top p [] (suc i) up = omega arith
place_top p (q ∷ qs) zero (less, up) = let w = place_high q qs (length qs) up in omega arith
place_top p (q ∷ qs) (suc i) (less, up) = place_top q qs i up

-- one id, one slot
pub same_slot : (x y : SelectorParts) (shape : ShapeParts) → ValidShape x y shape → (a b : ℕ) (id : List ℕ) → a ≤ length shape.steps → b ≤ length shape.steps →
    Contains (filter_map asked_id (simples_in x y shape a)) id → Contains (filter_map asked_id (simples_in x y shape b)) id → a ≡ b
same_slot x y shape v a b id ha hb c d = split (order a b)
  where
    order : (a b : ℕ) → (a < b) ⊎ ((a ≡ b) ⊎ (b < a))
    order a b = grind arith

    split : (a < b) ⊎ ((a ≡ b) ⊎ (b < a)) → a ≡ b
    split (inl less) = absurd (v.ids a b id less hb c d)
    split (inr (inl is)) = is
    split (inr (inr less)) = absurd (v.ids b a id less ha d c)

same_index : (p : ℕ) (ps : List ℕ) (i j : ℕ) → Ascend p ps → i ≤ length ps → j ≤ length ps → place_of p ps i ≡ place_of p ps j → i ≡ j
same_index p ps i j up hi hj e = split (order i j)
  where
    order : (a b : ℕ) → (a < b) ⊎ ((a ≡ b) ⊎ (b < a))
    order a b = grind arith

    split : (i < j) ⊎ ((i ≡ j) ⊎ (j < i)) → i ≡ j
    split (inl less) = absurd (let w = place_less p ps i j up less hj in omega arith)
    split (inr (inl is)) = is
    split (inr (inr less)) = absurd (let w = place_less p ps j i up less hi in omega arith)

pub left_ids_apart : (x y : SelectorParts) (shape : ShapeParts) (ps qs : List ℕ) → Opened x y shape ps qs → (i j : ℕ) (id : List ℕ) → i ≤ length x.links → j ≤ length x.links → i ≢ j →
    Contains (filter_map asked_id (nth_compound x.chain i)) id → Contains (filter_map asked_id (nth_compound x.chain j)) id → ⊥
left_ids_apart x y shape ps qs o i j id hi hj ne c d =
    ne (same_index 0 ps i j o.left.up (let f = o.left.same in omega arith) (let f = o.left.same in omega arith)
    (same_slot x y shape o.valid (place_of 0 ps i) (place_of 0 ps j) id (o.left.bound i) (o.left.bound j) (left_asks x y shape ps qs o i id hi c) (left_asks x y shape ps qs o j id hj d)))

pub right_ids_apart : (x y : SelectorParts) (shape : ShapeParts) (ps qs : List ℕ) → Opened x y shape ps qs → (i j : ℕ) (id : List ℕ) → i ≤ length y.links → j ≤ length y.links → i ≢ j →
    Contains (filter_map asked_id (nth_compound y.chain i)) id → Contains (filter_map asked_id (nth_compound y.chain j)) id → ⊥
right_ids_apart x y shape ps qs o i j id hi hj ne c d =
    ne (same_index 0 qs i j o.right.up (let f = o.right.same in omega arith) (let f = o.right.same in omega arith)
    (same_slot x y shape o.valid (place_of 0 qs i) (place_of 0 qs j) id (o.right.bound i) (o.right.bound j) (right_asks x y shape ps qs o i id hi c) (right_asks x y shape ps qs o j id hj d)))

-- two compounds in one slot: the nodes of either are those of both
pub shared : (x y : SelectorParts) (ps qs : List ℕ) (i j : ℕ) → Ascend 0 ps → Ascend 0 qs → length x.links ≡ length ps → length y.links ≡ length qs → i ≤ length x.links → j ≤ length y.links → place_of 0 ps i ≡ place_of 0 qs j →
    (k : Lays) (i' j' : ℕ) → i' ≤ length x.links → j' ≤ length y.links → nodes_in x.links y.links ps qs k i' j' ≡ true → (has_left k ≡ true → i' ≡ i → (has_right k ≡ true) × (j' ≡ j)) × (has_right k ≡ true → j' ≡ j → (has_left k ≡ true) × (i' ≡ i))
shared x y ps qs i j up up' lx ly hi hj e together i' j' hi' hj' t = (
  (λ _ is. (refl, same_index 0 qs j' j up' (omega arith) (omega arith) (sym (eqb-true (place_of 0 ps i') (place_of 0 qs j') t) ∙ ap (place_of 0 ps) is ∙ e))),
  (λ _ is. (refl, same_index 0 ps i' i up (omega arith) (omega arith) (eqb-true (place_of 0 ps i') (place_of 0 qs j') t ∙ ap (place_of 0 qs) is ∙ sym e))),
)
shared x y ps qs i j up up' lx ly hi hj e left_alone i' j' hi' hj' t = (
  (λ _ is. absurd (let z = ap (place_of 0 ps) is in split (order j j') (grind arith) (λ h. grind arith) z)),
  (λ h _. absurd (false≢true h)),
)
  where
    order : (a b : ℕ) → (a ≤ b) ⊎ (b < a)
    order a b = grind arith

    mono : (a b : ℕ) → a ≤ b → b ≤ length qs → place_of 0 qs a ≤ place_of 0 qs b
    mono a b h hb = eq_or a b h hb
      where
        eq_or : (a b : ℕ) → a ≤ b → b ≤ length qs → place_of 0 qs a ≤ place_of 0 qs b
        eq_or a b h hb = elim (case a b h) [ inl is ↦ (let z = ap (place_of 0 qs) is in omega arith) | inr less ↦ (let w = place_less 0 qs a b up' less hb in omega arith) ]
          where
            case : (a b : ℕ) → a ≤ b → (a ≡ b) ⊎ (a < b)
            case a b h = grind arith

    split : (j ≤ j') ⊎ (j' < j) → place_of 0 qs j' < place_of 0 ps i' → (j' < length y.links → place_of 0 ps i' < place_of 0 qs (suc j')) → place_of 0 ps i' ≡ place_of 0 ps i → ⊥
    split (inl low) a b z = let w = mono j j' low (omega arith) in omega arith
    split (inr high) a b z = let w = mono (suc j') j high (omega arith) in let c = b (omega arith) in omega arith
shared x y ps qs i j up up' lx ly hi hj e right_alone i' j' hi' hj' t = (
  (λ h _. absurd (false≢true h)),
  (λ _ is. absurd (let z = ap (place_of 0 qs) is in split (order i i') (grind arith) (λ h. grind arith) z)),
)
  where
    order : (a b : ℕ) → (a ≤ b) ⊎ (b < a)
    order a b = grind arith

    mono : (a b : ℕ) → a ≤ b → b ≤ length ps → place_of 0 ps a ≤ place_of 0 ps b
    mono a b h hb = elim (case a b h) [ inl is ↦ (let z = ap (place_of 0 ps) is in omega arith) | inr less ↦ (let w = place_less 0 ps a b up less hb in omega arith) ]
      where
        case : (a b : ℕ) → a ≤ b → (a ≡ b) ⊎ (a < b)
        case a b h = grind arith

    split : (i ≤ i') ⊎ (i' < i) → place_of 0 ps i' < place_of 0 qs j' → (i' < length x.links → place_of 0 qs j' < place_of 0 ps (suc i')) → place_of 0 qs j' ≡ place_of 0 qs j → ⊥
    split (inl low) a b z = let w = mono i i' low (omega arith) in omega arith
    split (inr high) a b z = let w = mono (suc i') i high (omega arith) in let c = b (omega arith) in omega arith
