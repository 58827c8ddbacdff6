-- The conditions on a shape, slot by slot.
use Rattle.std.proofs.Common.{Bool, List, ap, arith, false, get_or, inl, inr, length, map, not, refl, subst, suc, sym, true, zero, ℕ, ◌&&◌, ◌++◌, ◌<◌, ◌∙◌, ◌∷◌, ◌≡◌, ◌≤◌, ◌⊎◌}
use Rattle.std.proofs.lemmas.Bool.{false≢true}
use Rattle.std.proofs.lemmas.List.Elements.{All-append, All-nil, Contains-append_cases, filter_map-append}
use Rattle.std.specs.List.{All, filter_map}
use Rattle.std.specs.Prelude.{Contains, ◌==◌}
use Rattle.css_model.specs.Documents.SelectorParts.{SelectorParts}
use Rattle.css_model.specs.declared.selector.Combinator.{Combinator}
use Rattle.css_model.specs.declared.selector.Simple.{Simple}
use Rattle.grid_laws.proofs.FromShape.Steps.{own_up}
use Rattle.grid_laws.proofs.ToShape.AtSlots.{AtSlot, Laying, and_true, contains_place, root_at_left, root_at_right}
use Rattle.grid_laws.proofs.Walks.Listing.{steps_of}
use Rattle.grid_laws.proofs.Walks.Placed.{Chained, place_of}
use Rattle.grid_laws.specs.Grid.{Lays, Nodes, has_left, has_right, goes_up_at, left_alone, right_alone, together}
use Rattle.grid_laws.specs.Slots.{Laid, laid_at, shape_of}
use Rattle.grid_laws.specs.Solved.{if_there, is_above, node_above, node_simples, nth_compound, root_left, root_right}
use Rattle.list_facts.proofs.Members.{Contains-nil}
use Rattle.slot_plan.specs.Positions.{PositionFits}
use Rattle.slot_plan.specs.Steps.{is_parent}
use Rattle.slot_plan.specs.ValidShape.{RootFits, asked_id, simples_at, simples_in}
use Rattle.slot_plan.specs.declared.shape.SlotStep.{SlotStep}

all_if : (P : Simple → Type 0) (b : Bool) (xs : List Simple) → (b ≡ true → All P xs) → All P (if_there b xs)
all_if P true xs h = h refl
all_if P false xs h = All-nil P

-- what stands in a slot
pub stands_in : (x y : SelectorParts) (v : Nodes) (ss : List Laid) (b a : ℕ) (root child : Bool) (k : ℕ) (n : AtSlot x y v ss k) → simples_in x y (shape_of b a root child ss) k ≡ node_simples x y n.kind n.i n.j
stands_in x y v ss b a root child k n =
    ap (λ l. l ++ simples_at y.chain (0 ∷ laid_at has_right 1 ss) k) n.left ∙ ap (λ r. if_there (has_left n.kind) (nth_compound x.chain n.i) ++ r) n.right

abbrev pub Fits : Bool → Bool → List Laid → ℕ → ℕ → ℕ → Simple → Type 0
Fits root child ss b a k s = PositionFits (root && (k == length (steps_of ss))) child (get_or (b ∷ map (λ s. s.before) ss) k 0) (get_or (a ∷ map (λ s. s.after) ss) k 0) s

pub positions_of : (x y : SelectorParts) (v : Nodes) (bx ax by ay : ℕ → ℕ) (root child : Bool) (ss : List Laid) → Laying x y v bx ax by ay root child ss → (k : ℕ) → k ≤ length ss →
    All (PositionFits (root && (k == length (steps_of ss))) child (get_or (bx 0 ∷ map (λ s. s.before) ss) k 0) (get_or (ax 0 ∷ map (λ s. s.after) ss) k 0)) (simples_in x y (shape_of (bx 0) (ax 0) root child ss) k)
positions_of x y v bx ax by ay root child ss l k h =
    let n = l.slot k h in
    subst (All (Fits root child ss (bx 0) (ax 0) k)) (sym (stands_in x y v ss (bx 0) (ax 0) root child k n))
    (All-append (Fits root child ss (bx 0) (ax 0) k) (if_there (has_left n.kind) (nth_compound x.chain n.i)) (if_there (has_right n.kind) (nth_compound y.chain n.j))
    (all_if (Fits root child ss (bx 0) (ax 0) k) (has_left n.kind) (nth_compound x.chain n.i) (λ e.
    subst (λ r. All (PositionFits r child (get_or (bx 0 ∷ map (λ s. s.before) ss) k 0) (get_or (ax 0 ∷ map (λ s. s.after) ss) k 0)) (nth_compound x.chain n.i)) (sym (root_at_left x y v bx ax by ay root child ss l k h n e))
    (subst (λ (b : ℕ). All (PositionFits (root_left x y v root && (n.i == length x.links)) child b (get_or (ax 0 ∷ map (λ s. s.after) ss) k 0)) (nth_compound x.chain n.i)) (sym (l.left_before n.i n.hi) ∙ ap (λ (p : ℕ). get_or (bx 0 ∷ map (λ s. s.before) ss) p 0) (n.left_place e))
    (subst (λ (a : ℕ). All (PositionFits (root_left x y v root && (n.i == length x.links)) child (bx n.i) a) (nth_compound x.chain n.i)) (sym (l.left_after n.i n.hi) ∙ ap (λ (p : ℕ). get_or (ax 0 ∷ map (λ s. s.after) ss) p 0) (n.left_place e))
    (l.solved.left_positions n.i n.hi)))))
    (all_if (Fits root child ss (bx 0) (ax 0) k) (has_right n.kind) (nth_compound y.chain n.j) (λ e.
    subst (λ r. All (PositionFits r child (get_or (bx 0 ∷ map (λ s. s.before) ss) k 0) (get_or (ax 0 ∷ map (λ s. s.after) ss) k 0)) (nth_compound y.chain n.j)) (sym (root_at_right x y v bx ax by ay root child ss l k h n e))
    (subst (λ (b : ℕ). All (PositionFits (root_right x y v root && (n.j == length y.links)) child b (get_or (ax 0 ∷ map (λ s. s.after) ss) k 0)) (nth_compound y.chain n.j)) (sym (l.right_before n.j n.hj) ∙ ap (λ (p : ℕ). get_or (bx 0 ∷ map (λ s. s.before) ss) p 0) (n.right_place e))
    (subst (λ (a : ℕ). All (PositionFits (root_right x y v root && (n.j == length y.links)) child (by n.j) a) (nth_compound y.chain n.j)) (sym (l.right_after n.j n.hj) ∙ ap (λ (p : ℕ). get_or (ax 0 ∷ map (λ s. s.after) ss) p 0) (n.right_place e))
    (l.solved.right_positions n.j n.hj))))))

-- whether a slot is a parent slot
pub above_by : (steps : List SlotStep) (links : List Combinator) (ps : List ℕ) (i : ℕ) → Chained steps links ps → i ≤ length links → is_parent steps (place_of 0 ps i) ≡ is_above links i
above_by steps links ps zero c h = refl
above_by steps links ps (suc i) c h = own_up steps links 0 ps i c.fit c.up c.bound (let e = c.same in omega arith)

pub above_is : (x y : SelectorParts) (v : Nodes) (bx ax by ay : ℕ → ℕ) (root child : Bool) (ss : List Laid) → Laying x y v bx ax by ay root child ss → (k : ℕ) (h : k ≤ length ss) → (n : AtSlot x y v ss k) → is_parent (steps_of ss) k ≡ node_above x y n.kind n.i n.j
above_is x y v bx ax by ay root child ss l k h n = split n.kind refl
  where
    split : (kind : Lays) → n.kind ≡ kind → is_parent (steps_of ss) k ≡ node_above x y kind n.i n.j
    split left_alone e = ap (is_parent (steps_of ss)) (sym (n.left_place (ap has_left e))) ∙ above_by (steps_of ss) x.links (laid_at has_left 1 ss) n.i l.left n.hi
    split right_alone e = ap (is_parent (steps_of ss)) (sym (n.right_place (ap has_right e))) ∙ above_by (steps_of ss) y.links (laid_at has_right 1 ss) n.j l.right n.hj
    split together e = ap (is_parent (steps_of ss)) (sym (n.left_place (ap has_left e))) ∙ above_by (steps_of ss) x.links (laid_at has_left 1 ss) n.i l.left n.hi

-- who asks for an id in a slot
asker : (x y : SelectorParts) (k : Lays) (i j : ℕ) (id : List ℕ) → Contains (filter_map asked_id (node_simples x y k i j)) id →
    ((has_left k ≡ true) × Contains (filter_map asked_id (nth_compound x.chain i)) id) ⊎ ((has_right k ≡ true) × Contains (filter_map asked_id (nth_compound y.chain j)) id)
asker x y k i j id h = elim (Contains-append_cases (filter_map asked_id (if_there (has_left k) (nth_compound x.chain i))) (filter_map asked_id (if_there (has_right k) (nth_compound y.chain j))) id
    (subst (λ ids. Contains ids id) (filter_map-append asked_id (if_there (has_left k) (nth_compound x.chain i)) (if_there (has_right k) (nth_compound y.chain j))) h)) [
      | inl a ↦ inl (some (has_left k) (nth_compound x.chain i) a)
      | inr a ↦ inr (some (has_right k) (nth_compound y.chain j) a)
    ]
  where
    some : (b : Bool) (xs : List Simple) → Contains (filter_map asked_id (if_there b xs)) id → (b ≡ true) × Contains (filter_map asked_id xs) id
    some true xs h = (refl, h)
    some false xs h = absurd (Contains-nil id h)

pub ids_apart : (x y : SelectorParts) (v : Nodes) (bx ax by ay : ℕ → ℕ) (root child : Bool) (ss : List Laid) → Laying x y v bx ax by ay root child ss → (j k : ℕ) (id : List ℕ) → j < k → (h : k ≤ length ss) →
    Contains (filter_map asked_id (simples_in x y (shape_of (bx 0) (ax 0) root child ss) j)) id → Contains (filter_map asked_id (simples_in x y (shape_of (bx 0) (ax 0) root child ss) k)) id → ⊥
ids_apart x y v bx ax by ay root child ss l j k id less h a b = both (asker x y n.kind n.i n.j id a') (asker x y m.kind m.i m.j id b')
  where
    n : AtSlot x y v ss j
    n = l.slot j (omega arith)

    m : AtSlot x y v ss k
    m = l.slot k h

    a' : Contains (filter_map asked_id (node_simples x y n.kind n.i n.j)) id
    a' = subst (λ s. Contains (filter_map asked_id s) id) (stands_in x y v ss (bx 0) (ax 0) root child j n) a

    b' : Contains (filter_map asked_id (node_simples x y m.kind m.i m.j)) id
    b' = subst (λ s. Contains (filter_map asked_id s) id) (stands_in x y v ss (bx 0) (ax 0) root child k m) b

    both : ((has_left n.kind ≡ true) × Contains (filter_map asked_id (nth_compound x.chain n.i)) id) ⊎ ((has_right n.kind ≡ true) × Contains (filter_map asked_id (nth_compound y.chain n.j)) id) →
        ((has_left m.kind ≡ true) × Contains (filter_map asked_id (nth_compound x.chain m.i)) id) ⊎ ((has_right m.kind ≡ true) × Contains (filter_map asked_id (nth_compound y.chain m.j)) id) → ⊥
    both (inl (e, c)) (inl (f, d)) = l.solved.left_ids n.i m.i id n.hi m.hi (λ same. let w = n.left_place e in let w' = m.left_place f in let z = ap (place_of 0 (laid_at has_left 1 ss)) same in omega arith) c d
    both (inr (e, c)) (inr (f, d)) = l.solved.right_ids n.j m.j id n.hj m.hj (λ same. let w = n.right_place e in let w' = m.right_place f in let z = ap (place_of 0 (laid_at has_right 1 ss)) same in omega arith) c d
    both (inl (e, c)) (inr (f, d)) =
        let r = (l.solved.both_ids n.i m.j id n.hi m.hj c d n.kind n.i n.j n.hi n.hj n.holds).0 e refl in
        let w = n.right_place r.0 in let w' = m.right_place f in let z = ap (place_of 0 (laid_at has_right 1 ss)) r.1 in omega arith
    both (inr (e, c)) (inl (f, d)) =
        let r = (l.solved.both_ids m.i n.j id m.hi n.hj d c n.kind n.i n.j n.hi n.hj n.holds).1 e refl in
        let w = n.left_place r.0 in let w' = m.left_place f in let z = ap (place_of 0 (laid_at has_left 1 ss)) r.1 in omega arith

-- each slot has a compound
pub used_by : (x y : SelectorParts) (v : Nodes) (ss : List Laid) (k : ℕ) → AtSlot x y v ss k → Contains (0 ∷ laid_at has_left 1 ss) k ⊎ Contains (0 ∷ laid_at has_right 1 ss) k
used_by x y v ss k n = split n.kind refl
  where
    on_left : has_left n.kind ≡ true → Contains (0 ∷ laid_at has_left 1 ss) k
    on_left e = subst (λ (p : ℕ). Contains (0 ∷ laid_at has_left 1 ss) p) (n.left_place e) (contains_place 0 (laid_at has_left 1 ss) n.i)

    split : (kind : Lays) → n.kind ≡ kind → Contains (0 ∷ laid_at has_left 1 ss) k ⊎ Contains (0 ∷ laid_at has_right 1 ss) k
    split left_alone e = inl (on_left (ap has_left e))
    split together e = inl (on_left (ap has_left e))
    split right_alone e = inr (subst (λ (p : ℕ). Contains (0 ∷ laid_at has_right 1 ss) p) (n.right_place (ap has_right e)) (contains_place 0 (laid_at has_right 1 ss) n.j))

pub root_by : (x y : SelectorParts) (v : Nodes) (bx ax by ay : ℕ → ℕ) (root child : Bool) (ss : List Laid) → Laying x y v bx ax by ay root child ss → root ≡ true → RootFits (shape_of (bx 0) (ax 0) root child ss)
root_by x y v bx ax by ay root child ss l top = split n.kind refl
  where
    n : AtSlot x y v ss (length ss)
    n = l.slot (length ss) (omega arith)

    at_right : has_right n.kind ≡ true → root_right x y v root ≡ true → RootFits (shape_of (bx 0) (ax 0) root child ss)
    at_right e t =
        let f = l.solved.top_right t in
        let place : place_of 0 (laid_at has_right 1 ss) (length y.links) ≡ length ss = ap (place_of 0 (laid_at has_right 1 ss)) (sym (n.last refl).1) ∙ n.right_place e in
        record {
          on_line = line (length y.links) refl f.0 place;
          before = ap (λ (p : ℕ). get_or (bx 0 ∷ map (λ s. s.before) ss) p 0) (l.steps ∙ sym place) ∙ l.right_before (length y.links) (omega arith) ∙ f.1;
          after = ap (λ (p : ℕ). get_or (ax 0 ∷ map (λ s. s.after) ss) p 0) (l.steps ∙ sym place) ∙ l.right_after (length y.links) (omega arith) ∙ f.2;
        }
      where
        line : (i : ℕ) → length y.links ≡ i → goes_up_at y.links (length y.links) ≡ true → place_of 0 (laid_at has_right 1 ss) (length y.links) ≡ length ss → (length (steps_of ss) ≡ 0) ⊎ (is_parent (steps_of ss) (length (steps_of ss)) ≡ true)
        line zero e up place = inl (l.steps ∙ sym place ∙ ap (place_of 0 (laid_at has_right 1 ss)) e)
        line (suc i) e up place = inr (ap (is_parent (steps_of ss)) (l.steps ∙ sym place ∙ ap (place_of 0 (laid_at has_right 1 ss)) e) ∙ above_by (steps_of ss) y.links (laid_at has_right 1 ss) (suc i) l.right (omega arith) ∙ ap (goes_up_at y.links) (sym e) ∙ up)

    at_left : has_left n.kind ≡ true → root_left x y v root ≡ true → RootFits (shape_of (bx 0) (ax 0) root child ss)
    at_left e t =
        let f = l.solved.top_left t in
        let place : place_of 0 (laid_at has_left 1 ss) (length x.links) ≡ length ss = ap (place_of 0 (laid_at has_left 1 ss)) (sym (n.last refl).0) ∙ n.left_place e in
        record {
          on_line = line (length x.links) refl f.0 place;
          before = ap (λ (p : ℕ). get_or (bx 0 ∷ map (λ s. s.before) ss) p 0) (l.steps ∙ sym place) ∙ l.left_before (length x.links) (omega arith) ∙ f.1;
          after = ap (λ (p : ℕ). get_or (ax 0 ∷ map (λ s. s.after) ss) p 0) (l.steps ∙ sym place) ∙ l.left_after (length x.links) (omega arith) ∙ f.2;
        }
      where
        line : (i : ℕ) → length x.links ≡ i → goes_up_at x.links (length x.links) ≡ true → place_of 0 (laid_at has_left 1 ss) (length x.links) ≡ length ss → (length (steps_of ss) ≡ 0) ⊎ (is_parent (steps_of ss) (length (steps_of ss)) ≡ true)
        line zero e up place = inl (l.steps ∙ sym place ∙ ap (place_of 0 (laid_at has_left 1 ss)) e)
        line (suc i) e up place = inr (ap (is_parent (steps_of ss)) (l.steps ∙ sym place ∙ ap (place_of 0 (laid_at has_left 1 ss)) e) ∙ above_by (steps_of ss) x.links (laid_at has_left 1 ss) (suc i) l.left (omega arith) ∙ ap (goes_up_at x.links) (sym e) ∙ up)

    root_true : (other : Lays) (is : v other (length x.links) (length y.links) ≡ true → ⊥) → (root && not (v other (length x.links) (length y.links))) ≡ true
    root_true other refuse = go (v other (length x.links) (length y.links)) refl
      where
        go : (b : Bool) → v other (length x.links) (length y.links) ≡ b → (root && not b) ≡ true
        go false e = and_true root ∙ top
        go true e = absurd (refuse e)

    here : v n.kind (length x.links) (length y.links) ≡ true
    here = ap (λ (i : ℕ). v n.kind i (length y.links)) (sym (n.last refl).0) ∙ ap (λ (j : ℕ). v n.kind n.i j) (sym (n.last refl).1) ∙ n.holds

    split : (kind : Lays) → n.kind ≡ kind → RootFits (shape_of (bx 0) (ax 0) root child ss)
    split left_alone e = at_left (ap has_left e) (root_true right_alone (λ t. false≢true (ap has_left (l.solved.one_last right_alone n.kind t here) ∙ ap has_left e)))
    split together e = at_left (ap has_left e) (root_true right_alone (λ t. false≢true (ap has_left (l.solved.one_last right_alone n.kind t here) ∙ ap has_left e)))
    split right_alone e = at_right (ap has_right e) (root_true left_alone (λ t. false≢true (ap has_right (l.solved.one_last left_alone n.kind t here) ∙ ap has_right e)))

pub by_place : (b : ℕ → ℕ) (first : ℕ) (vs : List ℕ) (ps : List ℕ) (i : ℕ) → first ≡ b 0 → ((i : ℕ) → i < length ps → get_or (first ∷ vs) (place_of 0 ps (suc i)) 0 ≡ b (suc i)) → i ≤ length ps → get_or (first ∷ vs) (place_of 0 ps i) 0 ≡ b i
by_place b first vs ps zero e each h = e
by_place b first vs ps (suc i) e each h = each i (omega arith)
