-- Where a shape fits, all conditions hold of its nodes and numbers.
use Rattle.std.proofs.Common.{Bool, List, [], ap, arith, false, get_or, inl, inr, length, not, refl, subst, suc, sym, true, ℕ, ◌&&◌, ◌∙◌, ◌∷◌, ◌≡◌, ◌≤◌}
use Rattle.std.proofs.lemmas.Bool.{eqb-true, false≢true}
use Rattle.std.specs.Prelude.{Contains}
use Rattle.css_model.specs.Documents.SelectorParts.{SelectorParts}
use Rattle.css_model.specs.declared.selector.Combinator.{Combinator}
use Rattle.css_model.specs.declared.selector.Simple.{Simple}
use Rattle.grid_laws.proofs.FromShape.Ids.{left_asks, left_ids_apart, right_asks, right_ids_apart, same_slot, shared}
use Rattle.grid_laws.proofs.FromShape.Made.{shape_counted, shape_grid}
use Rattle.grid_laws.proofs.FromShape.Nodes.{Opened, node_empties, node_features}
use Rattle.grid_laws.proofs.FromShape.Root.{flag, left_positions_of, one_last_node, right_positions_of, swap, top_of, top_slot}
use Rattle.grid_laws.proofs.ToShape.AtSlots.{contains_place}
use Rattle.grid_laws.proofs.Walks.Placed.{Chained, nodes_in, place_of}
use Rattle.grid_laws.specs.Grid.{Nodes, left_alone, right_alone}
use Rattle.grid_laws.specs.Solved.{Solved}
use Rattle.slot_plan.specs.ShapeParts.{ShapeParts}
use Rattle.slot_plan.specs.Steps.{LinksFit}
use Rattle.slot_plan.specs.ValidShape.{Ascend, SlotsOf, ValidShape}
use Rattle.slot_plan.specs.declared.shape.SlotStep.{SlotStep}

both_true : (a b : Bool) → (a && b) ≡ true → (a ≡ true) × (b ≡ true)
both_true true true h = (refl, refl)
both_true true false h = absurd (false≢true h)
both_true false b h = absurd (false≢true h)

-- what a valid shape says of nodes and numbers
shape_solved : (x y : SelectorParts) (shape : ShapeParts) (ps qs : List ℕ) → Opened x y shape ps qs →
    Solved x y (nodes_in x.links y.links ps qs) (λ i. get_or shape.before (place_of 0 ps i) 0) (λ i. get_or shape.after (place_of 0 ps i) 0) (λ j. get_or shape.before (place_of 0 qs j) 0) (λ j. get_or shape.after (place_of 0 qs j) 0) shape.top_is_root shape.root_is_child
shape_solved x y shape ps qs o = record {
  length_left = o.length_left;
  length_right = o.length_right;
  start = refl;
  grid = shape_grid shape.steps x.links y.links ps qs o.left o.right;
  counted = λ _. shape_counted shape.steps shape.before shape.after x.links y.links ps qs o.valid.counts o.left o.right;
  one_last = one_last_node x y ps qs;
  top_left = λ h. let b = both_true shape.top_is_root (not (nodes_in x.links y.links ps qs right_alone (length x.links) (length y.links))) h in
      top_of shape x.links ps o.left (o.valid.root b.0) (eqb-true (place_of 0 ps (length x.links)) (length shape.steps)
      (flag (place_of 0 ps (length x.links)) (place_of 0 qs (length y.links)) (place_of 0 ps (suc (length x.links))) (length x.links) (length shape.steps) (o.left.bound (length x.links)) (o.right.bound (length y.links)) (top_slot x y shape ps qs o) ∙ b.1));
  top_right = λ h. let b = both_true shape.top_is_root (not (nodes_in x.links y.links ps qs left_alone (length x.links) (length y.links))) h in
      top_of shape y.links qs o.right (o.valid.root b.0) (eqb-true (place_of 0 qs (length y.links)) (length shape.steps)
      (flag (place_of 0 qs (length y.links)) (place_of 0 ps (length x.links)) (place_of 0 qs (suc (length y.links))) (length y.links) (length shape.steps) (o.right.bound (length y.links)) (o.left.bound (length x.links)) (swap (top_slot x y shape ps qs o)) ∙ b.1));
  left_positions = left_positions_of x y shape ps qs o;
  right_positions = right_positions_of x y shape ps qs o;
  empties = node_empties x y shape ps qs o;
  features = node_features x y shape ps qs o;
  left_ids = left_ids_apart x y shape ps qs o;
  right_ids = right_ids_apart x y shape ps qs o;
  both_ids = λ i j id hi hj c d. shared x y ps qs i j o.left.up o.right.up o.left.same o.right.same hi hj
      (same_slot x y shape o.valid (place_of 0 ps i) (place_of 0 qs j) id (o.left.bound i) (o.right.bound j) (left_asks x y shape ps qs o i id hi c) (right_asks x y shape ps qs o j id hj d));
  pseudo = o.valid.pseudo;
}

-- the lists of a valid shape, taken apart
slots_parts : (chain : List (List Simple)) (links : List Combinator) (steps : List SlotStep) (l : List ℕ) → length chain ≡ suc (length links) → SlotsOf chain links steps l → ((k : ℕ) → Contains l k → k ≤ length steps) →
    (ps : List ℕ) × (l ≡ 0 ∷ ps) × Chained steps links ps
slots_parts chain links steps [] e h inside = absurd h
slots_parts chain links steps (p ∷ ps) e (zero_first, up, len, fit) inside = (
  ps,
  ap (λ (q : ℕ). q ∷ ps) zero_first,
  record {
    fit = subst (λ (q : ℕ). LinksFit steps links q ps) zero_first fit;
    up = subst (λ (q : ℕ). Ascend q ps) zero_first up;
    bound = λ k. inside (place_of 0 ps k) (subst (λ (q : ℕ). Contains (q ∷ ps) (place_of 0 ps k)) (sym zero_first) (contains_place 0 ps k));
    same = omega arith;
  },
)

-- the nodes and numbers, with what is known of all counts
pub solved_with : (P : ℕ → Type 0) (x y : SelectorParts) (shape : ShapeParts) → length x.chain ≡ suc (length x.links) → length y.chain ≡ suc (length y.links) → ValidShape x y shape → ((k : ℕ) → P (get_or shape.before k 0)) → ((k : ℕ) → P (get_or shape.after k 0)) →
    (v : Nodes) × (bx : ℕ → ℕ) × (ax : ℕ → ℕ) × (by : ℕ → ℕ) × (ay : ℕ → ℕ) × Solved x y v bx ax by ay shape.top_is_root shape.root_is_child × ((i : ℕ) → P (bx i)) × ((i : ℕ) → P (ax i)) × ((j : ℕ) → P (by j)) × ((j : ℕ) → P (ay j))
solved_with P x y shape lx ly valid before after =
    let a = slots_parts x.chain x.links shape.steps shape.left lx valid.left (λ k h. valid.inside k (inl h)) in
    let b = slots_parts y.chain y.links shape.steps shape.right ly valid.right (λ k h. valid.inside k (inr h)) in (
      nodes_in x.links y.links a.0 b.0,
      (λ i. get_or shape.before (place_of 0 a.0 i) 0),
      (λ i. get_or shape.after (place_of 0 a.0 i) 0),
      (λ j. get_or shape.before (place_of 0 b.0 j) 0),
      (λ j. get_or shape.after (place_of 0 b.0 j) 0),
      shape_solved x y shape a.0 b.0 (record { valid = valid; is_left = a.1; is_right = b.1; left = a.2; right = b.2; length_left = lx; length_right = ly }),
      (λ i. before (place_of 0 a.0 i)),
      (λ i. after (place_of 0 a.0 i)),
      (λ j. before (place_of 0 b.0 j)),
      (λ j. after (place_of 0 b.0 j)),
    )
