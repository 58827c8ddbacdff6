-- What a node of a shape lays.
use Rattle.std.proofs.Common.{List, ap, arith, length, subst, suc, true, ℕ, ◌++◌, ◌∙◌, ◌∷◌, ◌≡◌, ◌≤◌}
use Rattle.std.proofs.lemmas.Bool.{eqb-true}
use Rattle.css_model.specs.Documents.Features.{CanSuit}
use Rattle.css_model.specs.Documents.SelectorParts.{SelectorParts}
use Rattle.grid_laws.proofs.FromShape.InNodes.{between, in_place}
use Rattle.grid_laws.proofs.ToShape.Conditions.{above_by}
use Rattle.grid_laws.proofs.Walks.Placed.{Chained, nodes_in, place_of}
use Rattle.grid_laws.specs.Grid.{Lays, left_alone, right_alone, together}
use Rattle.grid_laws.specs.Solved.{node_above, node_simples, nth_compound}
use Rattle.slot_plan.specs.ShapeParts.{ShapeParts}
use Rattle.slot_plan.specs.Steps.{is_parent}
use Rattle.slot_plan.specs.ValidShape.{EmptyFits, ValidShape, simples_at, simples_in}

-- a valid shape with its lists taken apart
pub record Opened (x y : SelectorParts) (shape : ShapeParts) (ps qs : List ℕ) : Type 0 where
  pub valid : ValidShape x y shape
  pub is_left : shape.left ≡ 0 ∷ ps
  pub is_right : shape.right ≡ 0 ∷ qs
  pub left : Chained shape.steps x.links ps
  pub right : Chained shape.steps y.links qs
  pub length_left : length x.chain ≡ suc (length x.links)
  pub length_right : length y.chain ≡ suc (length y.links)

-- what stands in the slot of a true node
node_slot : (x y : SelectorParts) (shape : ShapeParts) (ps qs : List ℕ) → Opened x y shape ps qs → (k : Lays) (i j : ℕ) → nodes_in x.links y.links ps qs k i j ≡ true → i ≤ length x.links → j ≤ length y.links →
    (t : ℕ) × (t ≤ length shape.steps) × (simples_in x y shape t ≡ node_simples x y k i j) × (is_parent shape.steps t ≡ node_above x y k i j)
node_slot x y shape ps qs o left_alone i j t hi hj = (
  place_of 0 ps i,
  o.left.bound i,
  ap (λ l. simples_at x.chain l (place_of 0 ps i) ++ simples_at y.chain shape.right (place_of 0 ps i)) o.is_left
      ∙ ap (λ r. simples_at x.chain (0 ∷ ps) (place_of 0 ps i) ++ simples_at y.chain r (place_of 0 ps i)) o.is_right
      ∙ ap (λ s. s ++ simples_at y.chain (0 ∷ qs) (place_of 0 ps i)) (in_place x.chain 0 ps i o.left.up (let e = o.length_left in let f = o.left.same in omega arith) (let f = o.left.same in omega arith))
      ∙ ap (λ s. nth_compound x.chain i ++ s) (between y.chain 0 qs j (place_of 0 ps i) o.right.up (let e = o.length_right in let f = o.right.same in omega arith) (let f = o.right.same in omega arith) (grind arith) (λ h. let f = o.right.same in grind arith)),
  above_by shape.steps x.links ps i o.left hi,
)
node_slot x y shape ps qs o right_alone i j t hi hj = (
  place_of 0 qs j,
  o.right.bound j,
  ap (λ l. simples_at x.chain l (place_of 0 qs j) ++ simples_at y.chain shape.right (place_of 0 qs j)) o.is_left
      ∙ ap (λ r. simples_at x.chain (0 ∷ ps) (place_of 0 qs j) ++ simples_at y.chain r (place_of 0 qs j)) o.is_right
      ∙ ap (λ s. s ++ simples_at y.chain (0 ∷ qs) (place_of 0 qs j)) (between x.chain 0 ps i (place_of 0 qs j) o.left.up (let e = o.length_left in let f = o.left.same in omega arith) (let f = o.left.same in omega arith) (grind arith) (λ h. let f = o.left.same in grind arith))
      ∙ in_place y.chain 0 qs j o.right.up (let e = o.length_right in let f = o.right.same in omega arith) (let f = o.right.same in omega arith),
  above_by shape.steps y.links qs j o.right hj,
)
node_slot x y shape ps qs o together i j t hi hj = (
  place_of 0 ps i,
  o.left.bound i,
  ap (λ l. simples_at x.chain l (place_of 0 ps i) ++ simples_at y.chain shape.right (place_of 0 ps i)) o.is_left
      ∙ ap (λ r. simples_at x.chain (0 ∷ ps) (place_of 0 ps i) ++ simples_at y.chain r (place_of 0 ps i)) o.is_right
      ∙ ap (λ s. s ++ simples_at y.chain (0 ∷ qs) (place_of 0 ps i)) (in_place x.chain 0 ps i o.left.up (let e = o.length_left in let f = o.left.same in omega arith) (let f = o.left.same in omega arith))
      ∙ ap (λ s. nth_compound x.chain i ++ s) (ap (simples_at y.chain (0 ∷ qs)) (eqb-true (place_of 0 ps i) (place_of 0 qs j) t) ∙ in_place y.chain 0 qs j o.right.up (let e = o.length_right in let f = o.right.same in omega arith) (let f = o.right.same in omega arith)),
  above_by shape.steps x.links ps i o.left hi,
)

-- `:empty` and what is asked of elements alone, at the nodes
pub node_features : (x y : SelectorParts) (shape : ShapeParts) (ps qs : List ℕ) → Opened x y shape ps qs → (k : Lays) (i j : ℕ) → nodes_in x.links y.links ps qs k i j ≡ true → i ≤ length x.links → j ≤ length y.links → CanSuit (node_simples x y k i j)
node_features x y shape ps qs o k i j t hi hj = let n = node_slot x y shape ps qs o k i j t hi hj in subst CanSuit n.2 (o.valid.features n.0 n.1)

pub node_empties : (x y : SelectorParts) (shape : ShapeParts) (ps qs : List ℕ) → Opened x y shape ps qs → (k : Lays) (i j : ℕ) → nodes_in x.links y.links ps qs k i j ≡ true → i ≤ length x.links → j ≤ length y.links → EmptyFits (node_above x y k i j) (node_simples x y k i j)
node_empties x y shape ps qs o k i j t hi hj = let n = node_slot x y shape ps qs o k i j t hi hj in subst (λ b. EmptyFits b (node_simples x y k i j)) n.3 (subst (EmptyFits (is_parent shape.steps n.0)) n.2 (o.valid.empties n.0 n.1))
