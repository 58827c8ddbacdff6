-- The root of a shape, and its tests of positions.
use Rattle.std.proofs.Common.{Bool, List, ap, arith, false, get_or, inl, inr, length, not, refl, subst, suc, sym, true, zero, ℕ, ◌&&◌, ◌++◌, ◌+◌, ◌<◌, ◌||◌, ◌∙◌, ◌≡◌, ◌≤◌, ◌⊎◌}
use Rattle.std.proofs.lemmas.Bool.{eq-eqb}
use Rattle.std.proofs.lemmas.List.{get_or-append-add, get_or_append_left, length-append}
use Rattle.std.specs.List.{All}
use Rattle.std.specs.Prelude.{Contains, nat_lt, ◌==◌}
use Rattle.css_model.specs.Documents.SelectorParts.{SelectorParts}
use Rattle.css_model.specs.declared.selector.Combinator.{Combinator}
use Rattle.css_model.specs.declared.selector.Simple.{Simple}
use Rattle.grid_laws.proofs.FromShape.Ids.{left_in_slot, place_less, place_top, right_in_slot}
use Rattle.grid_laws.proofs.FromShape.Nodes.{Opened}
use Rattle.grid_laws.proofs.ToShape.AtSlots.{place_contained}
use Rattle.grid_laws.proofs.ToShape.Conditions.{above_by}
use Rattle.grid_laws.proofs.Walks.Placed.{Chained, nodes_in, place_of}
use Rattle.grid_laws.specs.Grid.{Lays, goes_up_at, left_alone, right_alone, together}
use Rattle.grid_laws.specs.Solved.{nth_compound, root_left, root_right}
use Rattle.slot_plan.specs.Positions.{PositionFits}
use Rattle.slot_plan.specs.ShapeParts.{ShapeParts}
use Rattle.slot_plan.specs.Steps.{is_parent}
use Rattle.slot_plan.specs.ValidShape.{RootFits, is_root_slot, simples_at}

-- the last cell has one true node
pub one_last_node : (x y : SelectorParts) (ps qs : List ℕ) (k l : Lays) → nodes_in x.links y.links ps qs k (length x.links) (length y.links) ≡ true → nodes_in x.links y.links ps qs l (length x.links) (length y.links) ≡ true → k ≡ l
one_last_node x y ps qs left_alone left_alone t u = refl
one_last_node x y ps qs right_alone right_alone t u = refl
one_last_node x y ps qs together together t u = refl
one_last_node x y ps qs left_alone right_alone t u = absurd (grind arith)
one_last_node x y ps qs left_alone together t u = absurd (grind arith)
one_last_node x y ps qs right_alone left_alone t u = absurd (grind arith)
one_last_node x y ps qs right_alone together t u = absurd (grind arith)
one_last_node x y ps qs together left_alone t u = absurd (grind arith)
one_last_node x y ps qs together right_alone t u = absurd (grind arith)

-- the last slot is that of a last compound
pub top_slot : (x y : SelectorParts) (shape : ShapeParts) (ps qs : List ℕ) → Opened x y shape ps qs → (place_of 0 ps (length x.links) ≡ length shape.steps) ⊎ (place_of 0 qs (length y.links) ≡ length shape.steps)
top_slot x y shape ps qs o = elim (o.valid.used (length shape.steps) (omega arith)) [
  | inl a ↦ inl (let c = place_contained 0 ps (length shape.steps) (subst (λ l. Contains l (length shape.steps)) o.is_left a) in let t = place_top 0 ps c.0 o.left.up in let b = o.left.bound (length ps) in let w = c.1 in let z = ap (place_of 0 ps) o.left.same in omega arith)
  | inr a ↦ inr (let c = place_contained 0 qs (length shape.steps) (subst (λ l. Contains l (length shape.steps)) o.is_right a) in let t = place_top 0 qs c.0 o.right.up in let b = o.right.bound (length qs) in let w = c.1 in let z = ap (place_of 0 qs) o.right.same in omega arith)
]

pub flag : (a b c m n : ℕ) → a ≤ n → b ≤ n → (a ≡ n) ⊎ (b ≡ n) → (a == n) ≡ not (nat_lt a b && ((m == m) || nat_lt b c))
flag a b c m n ha hb top = grind arith

and_assoc : (a b c : Bool) → (a && (b && c)) ≡ ((a && b) && c)
and_assoc true b c = refl
and_assoc false b c = refl

-- a test and one that holds
and_true : (b : Bool) → (b && true) ≡ b
and_true true = refl
and_true false = refl

-- and one that does not
and_false : (b : Bool) → (b && false) ≡ false
and_false true = refl
and_false false = refl

equal_or : (a b : ℕ) → a ≤ b → (a ≡ b) ⊎ (a < b)
equal_or a b h = grind arith

pub swap : {A B : Type 0} → A ⊎ B → B ⊎ A
swap (inl a) = inr a
swap (inr b) = inl b

root_flag_left : (x y : SelectorParts) (shape : ShapeParts) (ps qs : List ℕ) → Opened x y shape ps qs → (i : ℕ) → i ≤ length x.links →
    is_root_slot shape (place_of 0 ps i) ≡ (root_left x y (nodes_in x.links y.links ps qs) shape.top_is_root && (i == length x.links))
root_flag_left x y shape ps qs o i hi = split (equal_or i (length x.links) hi)
  where
    split : (i ≡ length x.links) ⊎ (i < length x.links) → is_root_slot shape (place_of 0 ps i) ≡ (root_left x y (nodes_in x.links y.links ps qs) shape.top_is_root && (i == length x.links))
    split (inl is) =
        ap (λ (k : ℕ). shape.top_is_root && (place_of 0 ps k == length shape.steps)) is
        ∙ ap (λ b. shape.top_is_root && b) (flag (place_of 0 ps (length x.links)) (place_of 0 qs (length y.links)) (place_of 0 ps (suc (length x.links))) (length x.links) (length shape.steps) (o.left.bound (length x.links)) (o.right.bound (length y.links)) (top_slot x y shape ps qs o))
        ∙ sym (ap (λ b. root_left x y (nodes_in x.links y.links ps qs) shape.top_is_root && b) (eq-eqb i (length x.links) is) ∙ and_true (root_left x y (nodes_in x.links y.links ps qs) shape.top_is_root))
    split (inr less) =
        ap (λ b. shape.top_is_root && b) (let w = place_less 0 ps i (length x.links) o.left.up less (let f = o.left.same in omega arith) in let b = o.left.bound (length x.links) in let z : (place_of 0 ps i == length shape.steps) ≡ false = grind arith in z)
        ∙ and_false shape.top_is_root
        ∙ sym (ap (λ b. root_left x y (nodes_in x.links y.links ps qs) shape.top_is_root && b) (let z : (i == length x.links) ≡ false = grind arith in z) ∙ and_false (root_left x y (nodes_in x.links y.links ps qs) shape.top_is_root))

root_flag_right : (x y : SelectorParts) (shape : ShapeParts) (ps qs : List ℕ) → Opened x y shape ps qs → (j : ℕ) → j ≤ length y.links →
    is_root_slot shape (place_of 0 qs j) ≡ (root_right x y (nodes_in x.links y.links ps qs) shape.top_is_root && (j == length y.links))
root_flag_right x y shape ps qs o j hj = split (equal_or j (length y.links) hj)
  where
    split : (j ≡ length y.links) ⊎ (j < length y.links) → is_root_slot shape (place_of 0 qs j) ≡ (root_right x y (nodes_in x.links y.links ps qs) shape.top_is_root && (j == length y.links))
    split (inl is) =
        ap (λ (k : ℕ). shape.top_is_root && (place_of 0 qs k == length shape.steps)) is
        ∙ ap (λ b. shape.top_is_root && b) (flag (place_of 0 qs (length y.links)) (place_of 0 ps (length x.links)) (place_of 0 qs (suc (length y.links))) (length y.links) (length shape.steps) (o.right.bound (length y.links)) (o.left.bound (length x.links)) (swap (top_slot x y shape ps qs o)))
        ∙ sym (ap (λ b. root_right x y (nodes_in x.links y.links ps qs) shape.top_is_root && b) (eq-eqb j (length y.links) is) ∙ and_true (root_right x y (nodes_in x.links y.links ps qs) shape.top_is_root))
    split (inr less) =
        ap (λ b. shape.top_is_root && b) (let w = place_less 0 qs j (length y.links) o.right.up less (let f = o.right.same in omega arith) in let b = o.right.bound (length y.links) in let z : (place_of 0 qs j == length shape.steps) ≡ false = grind arith in z)
        ∙ and_false shape.top_is_root
        ∙ sym (ap (λ b. root_right x y (nodes_in x.links y.links ps qs) shape.top_is_root && b) (let z : (j == length y.links) ≡ false = grind arith in z) ∙ and_false (root_right x y (nodes_in x.links y.links ps qs) shape.top_is_root))

all_left : (P : Simple → Type 0) (xs ys : List Simple) → All P (xs ++ ys) → All P xs
all_left P xs ys all k d h = subst P (get_or_append_left xs ys d k h) (all k d (let l = length-append xs ys in omega arith))

all_right : (P : Simple → Type 0) (xs ys : List Simple) → All P (xs ++ ys) → All P ys
all_right P xs ys all k d h = subst P (get_or-append-add xs ys k d) (all (length xs + k) d (let l = length-append xs ys in omega arith))

pub left_positions_of : (x y : SelectorParts) (shape : ShapeParts) (ps qs : List ℕ) → Opened x y shape ps qs → (i : ℕ) → i ≤ length x.links →
    All (PositionFits (root_left x y (nodes_in x.links y.links ps qs) shape.top_is_root && (i == length x.links)) shape.root_is_child (get_or shape.before (place_of 0 ps i) 0) (get_or shape.after (place_of 0 ps i) 0)) (nth_compound x.chain i)
left_positions_of x y shape ps qs o i hi =
    subst (λ r. All (PositionFits r shape.root_is_child (get_or shape.before (place_of 0 ps i) 0) (get_or shape.after (place_of 0 ps i) 0)) (nth_compound x.chain i)) (root_flag_left x y shape ps qs o i hi)
    (all_left (PositionFits (is_root_slot shape (place_of 0 ps i)) shape.root_is_child (get_or shape.before (place_of 0 ps i) 0) (get_or shape.after (place_of 0 ps i) 0)) (nth_compound x.chain i) (simples_at y.chain shape.right (place_of 0 ps i))
    (subst (All (PositionFits (is_root_slot shape (place_of 0 ps i)) shape.root_is_child (get_or shape.before (place_of 0 ps i) 0) (get_or shape.after (place_of 0 ps i) 0))) (left_in_slot x y shape ps qs o i hi) (o.valid.positions (place_of 0 ps i) (o.left.bound i))))

pub right_positions_of : (x y : SelectorParts) (shape : ShapeParts) (ps qs : List ℕ) → Opened x y shape ps qs → (j : ℕ) → j ≤ length y.links →
    All (PositionFits (root_right x y (nodes_in x.links y.links ps qs) shape.top_is_root && (j == length y.links)) shape.root_is_child (get_or shape.before (place_of 0 qs j) 0) (get_or shape.after (place_of 0 qs j) 0)) (nth_compound y.chain j)
right_positions_of x y shape ps qs o j hj =
    subst (λ r. All (PositionFits r shape.root_is_child (get_or shape.before (place_of 0 qs j) 0) (get_or shape.after (place_of 0 qs j) 0)) (nth_compound y.chain j)) (root_flag_right x y shape ps qs o j hj)
    (all_right (PositionFits (is_root_slot shape (place_of 0 qs j)) shape.root_is_child (get_or shape.before (place_of 0 qs j) 0) (get_or shape.after (place_of 0 qs j) 0)) (simples_at x.chain shape.left (place_of 0 qs j)) (nth_compound y.chain j)
    (subst (All (PositionFits (is_root_slot shape (place_of 0 qs j)) shape.root_is_child (get_or shape.before (place_of 0 qs j) 0) (get_or shape.after (place_of 0 qs j) 0))) (right_in_slot x y shape ps qs o j hj) (o.valid.positions (place_of 0 qs j) (o.right.bound j))))

-- the top of a chain that stands in the root
pub top_of : (shape : ShapeParts) (links : List Combinator) (ps : List ℕ) → Chained shape.steps links ps → RootFits shape → place_of 0 ps (length links) ≡ length shape.steps →
    (goes_up_at links (length links) ≡ true) × (get_or shape.before (place_of 0 ps (length links)) 0 ≡ 0) × (get_or shape.after (place_of 0 ps (length links)) 0 ≡ 0)
top_of shape links ps c fits e = (up (length links) refl fits.on_line, ap (λ (k : ℕ). get_or shape.before k 0) e ∙ fits.before, ap (λ (k : ℕ). get_or shape.after k 0) e ∙ fits.after)
  where
    up : (m : ℕ) → length links ≡ m → (length shape.steps ≡ 0) ⊎ (is_parent shape.steps (length shape.steps) ≡ true) → goes_up_at links (length links) ≡ true
    up zero z line = ap (goes_up_at links) z
    up (suc m) z (inl none) = absurd (let w = place_less 0 ps 0 (length links) c.up (omega arith) (let f = c.same in omega arith) in omega arith)
    up (suc m) z (inr line) = ap (goes_up_at links) z ∙ sym (above_by shape.steps links ps (suc m) c (omega arith)) ∙ ap (λ (k : ℕ). is_parent shape.steps (place_of 0 ps k)) (sym z) ∙ ap (is_parent shape.steps) e ∙ line
