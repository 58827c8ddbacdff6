-- Where all conditions hold of nodes and numbers, a shape fits.
use Rattle.std.proofs.Common.{Bool, List, [], ap, arith, inl, inr, length, map, refl, subst, suc, sym, true, ℕ, ◌+◌, ◌∙◌, ◌∷◌, ◌≡◌, ◌≤◌}
use Rattle.css_model.specs.Documents.Features.{CanSuit}
use Rattle.css_model.specs.Documents.SelectorParts.{SelectorParts}
use Rattle.grid_laws.proofs.ToShape.AtSlots.{Laying, after_at, at_slot, before_at, place_contained}
use Rattle.grid_laws.proofs.ToShape.Conditions.{above_is, by_place, ids_apart, positions_of, root_by, stands_in, used_by}
use Rattle.grid_laws.proofs.Walks.Listing.{chained, length_steps, steps_of}
use Rattle.grid_laws.proofs.Walks.Pending.{Side, begin}
use Rattle.grid_laws.proofs.Walks.Placed.{Chained}
use Rattle.grid_laws.proofs.Walks.Walking.{Walked, walk}
use Rattle.grid_laws.specs.Grid.{Nodes, has_left, has_right, together}
use Rattle.grid_laws.specs.Numbers.{Counted}
use Rattle.grid_laws.specs.Slots.{Laid, laid_at, shape_of, slots_from}
use Rattle.grid_laws.specs.Solved.{Solved, node_above}
use Rattle.slot_plan.specs.Counts.{CountsFit}
use Rattle.slot_plan.specs.ValidShape.{EmptyFits, ValidShape, simples_in}

-- the walk through the grid
laying_of : (x y : SelectorParts) (v : Nodes) (bx ax by ay : ℕ → ℕ) (root child : Bool) → Solved x y v bx ax by ay root child → Counted x.links y.links v bx ax by ay → (ss : List Laid) → Walked x.links y.links v bx ax by ay [] [] (bx 0) (ax 0) ss → Laying x y v bx ax by ay root child ss
laying_of x y v bx ax by ay root child s counted ss w = record {
  solved = s;
  left = cl;
  right = cr;
  slot = at_slot x y v bx ax by ay root child ss s w.on cl.same cr.same;
  steps = length_steps ss;
  left_before = λ i h. by_place bx (bx 0) (map (λ s. s.before) ss) (laid_at has_left 1 ss) i refl (λ i less. before_at has_left (λ i. bx (suc i)) (λ i. ax (suc i)) (bx 0 ∷ []) 1 0 ss i refl w.left_numbers less) (let q = cl.same in omega arith);
  left_after = λ i h. by_place ax (ax 0) (map (λ s. s.after) ss) (laid_at has_left 1 ss) i refl (λ i less. after_at has_left (λ i. bx (suc i)) (λ i. ax (suc i)) (ax 0 ∷ []) 1 0 ss i refl w.left_numbers less) (let q = cl.same in omega arith);
  right_before = λ i h. by_place by (bx 0) (map (λ s. s.before) ss) (laid_at has_right 1 ss) i e.0 (λ i less. before_at has_right (λ i. by (suc i)) (λ i. ay (suc i)) (bx 0 ∷ []) 1 0 ss i refl w.right_numbers less) (let q = cr.same in omega arith);
  right_after = λ i h. by_place ay (ax 0) (map (λ s. s.after) ss) (laid_at has_right 1 ss) i e.1 (λ i less. after_at has_right (λ i. by (suc i)) (λ i. ay (suc i)) (ax 0 ∷ []) 1 0 ss i refl w.right_numbers less) (let q = cr.same in omega arith);
}
  where
    e : (bx 0 ≡ by 0) × (ax 0 ≡ ay 0)
    e = counted.equal 0 0 (omega arith) (omega arith) s.start

    cl : Chained (steps_of ss) x.links (laid_at has_left 1 ss)
    cl = chained has_left x.links ss w.left

    cr : Chained (steps_of ss) y.links (laid_at has_right 1 ss)
    cr = chained has_right y.links ss w.right

-- it is valid
pub valid_of : (x y : SelectorParts) (v : Nodes) (bx ax by ay : ℕ → ℕ) (root child : Bool) (ss : List Laid) → Solved x y v bx ax by ay root child → Laying x y v bx ax by ay root child ss →
    CountsFit (steps_of ss) (bx 0 ∷ map (λ s. s.before) ss) (ax 0 ∷ map (λ s. s.after) ss) → ValidShape x y (shape_of (bx 0) (ax 0) root child ss)
valid_of x y v bx ax by ay root child ss s l counts = record {
  left = (refl, l.left.up, ap suc (sym l.left.same) ∙ sym s.length_left, l.left.fit);
  right = (refl, l.right.up, ap suc (sym l.right.same) ∙ sym s.length_right, l.right.fit);
  used = λ k h. used_by x y v ss k (l.slot k (inner k h));
  inside = λ k h. elim h [
    | inl a ↦ (let p = place_contained 0 (laid_at has_left 1 ss) k a in let b = l.left.bound p.0 in let w = p.1 in omega arith)
    | inr a ↦ (let p = place_contained 0 (laid_at has_right 1 ss) k a in let b = l.right.bound p.0 in let w = p.1 in omega arith)
  ];
  counts = counts;
  root = root_by x y v bx ax by ay root child ss l;
  positions = λ k h. positions_of x y v bx ax by ay root child ss l k (inner k h);
  empties = λ k h. let n = l.slot k (inner k h) in
      subst (λ b. EmptyFits b (simples_in x y (shape_of (bx 0) (ax 0) root child ss) k)) (sym (above_is x y v bx ax by ay root child ss l k (inner k h) n))
      (subst (EmptyFits (node_above x y n.kind n.i n.j)) (sym (stands_in x y v ss (bx 0) (ax 0) root child k n)) (s.empties n.kind n.i n.j n.holds n.hi n.hj));
  features = λ k h. let n = l.slot k (inner k h) in subst CanSuit (sym (stands_in x y v ss (bx 0) (ax 0) root child k n)) (s.features n.kind n.i n.j n.holds n.hi n.hj);
  ids = λ j k id less h. ids_apart x y v bx ax by ay root child ss l j k id less (inner k h);
  pseudo = s.pseudo;
}
  where
    inner : (k : ℕ) → k ≤ length (steps_of ss) → k ≤ length ss
    inner k h = let q = l.steps in omega arith

-- where some test looks at numbers, the shape of nodes and numbers is valid
pub counted_shape : (x y : SelectorParts) (v : Nodes) (bx ax by ay : ℕ → ℕ) (root child : Bool) → Counted x.links y.links v bx ax by ay → Solved x y v bx ax by ay root child →
    ValidShape x y (shape_of (bx 0) (ax 0) root child (slots_from (length x.links + length y.links) x.links y.links v bx ax by ay 0 0 (bx 0)))
counted_shape x y v bx ax by ay root child counted s =
    let e = counted.equal 0 0 (omega arith) (omega arith) s.start in
    from (slots_from (length x.links + length y.links) x.links y.links v bx ax by ay 0 0 (bx 0)) (walk (length x.links + length y.links) x.links y.links v bx ax by ay together [] [] (bx 0) (ax 0) (omega arith) s.grid counted s.start (begin x.links (bx 0) (ax 0))
    (subst (λ (k : ℕ). Side true y.links [] (by 0) (ay 0) k (ax 0)) (sym e.0) (subst (λ (k : ℕ). Side true y.links [] (by 0) (ay 0) (by 0) k) (sym e.1) (begin y.links (by 0) (ay 0)))))
  where
    from : (ss : List Laid) → Walked x.links y.links v bx ax by ay [] [] (bx 0) (ax 0) ss → ValidShape x y (shape_of (bx 0) (ax 0) root child ss)
    from ss w = valid_of x y v bx ax by ay root child ss s (laying_of x y v bx ax by ay root child s counted ss w) w.counts
