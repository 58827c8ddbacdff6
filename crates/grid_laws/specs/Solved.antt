-- All conditions on a shape, said of nodes and numbers.
use Rattle.std.specs.List.{All, filter_map, list_any}
use Rattle.std.specs.Prelude.{Bool, Contains, List, [], false, length, not, slice_index_or, suc, true, zero, ℕ, ◌&&◌, ◌++◌, ◌==◌, ◌||◌, ◌≡◌, ◌≢◌, ◌≤◌}
use Rattle.css_model.specs.Documents.Features.{CanSuit}
use Rattle.css_model.specs.Documents.SelectorParts.{SelectorParts}
use Rattle.css_model.specs.declared.selector.Combinator.{Combinator}
use Rattle.css_model.specs.declared.selector.Simple.{Simple}
use Rattle.css_model.specs.declared.selector.Test.{Test}
use Rattle.css_model.specs.declared.selector.Test.TheVariants.{Nth, NthLast, OnlyChild}
use Rattle.grid_laws.specs.Grid.{Grid, Lays, Nodes, has_left, has_right, goes_up_at, left_alone, right_alone, together}
use Rattle.grid_laws.specs.Numbers.{Counted}
use Rattle.slot_plan.specs.Positions.{PositionFits}
use Rattle.slot_plan.specs.ValidShape.{EmptyFits, asked_id}

-- whether a test looks at a number of siblings
abbrev pub is_counted : Test → Bool
is_counted (Nth x) = true
is_counted (NthLast x) = true
is_counted OnlyChild = true
is_counted _ = false

-- whether a compound has such a test, negated or not
abbrev pub asks_numbers : List Simple → Bool
asks_numbers simples = list_any (λ s. is_counted s.test) simples

-- whether one of two selectors has one
abbrev pub numbers_asked : SelectorParts → SelectorParts → Bool
numbers_asked x y = list_any asks_numbers x.chain || list_any asks_numbers y.chain

-- a compound of a chain, where it has one there
abbrev pub nth_compound : List (List Simple) → ℕ → List Simple
nth_compound chain i = slice_index_or chain i []

-- what is asked, where a compound is there
abbrev pub if_there : Bool → List Simple → List Simple
if_there true simples = simples
if_there false simples = []

-- what a node lays
abbrev pub node_simples : SelectorParts → SelectorParts → Lays → ℕ → ℕ → List Simple
node_simples x y k i j = if_there (has_left k) (nth_compound x.chain i) ++ if_there (has_right k) (nth_compound y.chain j)

-- whether a compound's slot is a parent slot
abbrev pub is_above : List Combinator → ℕ → Bool
is_above links zero = false
is_above links (suc i) = goes_up_at links (suc i)

-- whether the slot of a node is a parent slot
abbrev pub node_above : SelectorParts → SelectorParts → Lays → ℕ → ℕ → Bool
node_above x y left_alone i j = is_above x.links i
node_above x y right_alone i j = is_above y.links j
node_above x y together i j = is_above x.links i

-- whether the last compound of the left selector stands in the root: the last slot is that of the root, and
-- does not hold the right one alone
abbrev pub root_left : SelectorParts → SelectorParts → Nodes → Bool → Bool
root_left x y v root = root && not (v right_alone (length x.links) (length y.links))

-- the same for the right selector
abbrev pub root_right : SelectorParts → SelectorParts → Nodes → Bool → Bool
root_right x y v root = root && not (v left_alone (length x.links) (length y.links))

-- All conditions on the shape of two selectors x and y, said of nodes and of numbers: bx and ax are how many
-- siblings stand before and behind each compound of x, by and ay those of y; `root` says that the last slot is that
-- of the root, `child` that the root counts as a child.
--     start, grid, one_last     the nodes are a path from the targets to the last compounds
--     counted                   where some test looks at numbers, they fit along the combinators, and where two
--                               compounds share a slot
--     top_left, top_right       a compound in the root can stand there
--     left_positions, right_positions    tests of positions hold by the numbers
--     empties, features         for each true node `:empty` can be as it is asked, and some element passes the rest
--     left_ids, right_ids, both_ids    compounds that ask for one id stand in one slot
pub record Solved (x y : SelectorParts) (v : Nodes) (bx ax by ay : ℕ → ℕ) (root child : Bool) : Type 0 where
  pub length_left : length x.chain ≡ suc (length x.links)
  pub length_right : length y.chain ≡ suc (length y.links)
  pub start : v together 0 0 ≡ true
  pub grid : Grid x.links y.links v
  pub counted : numbers_asked x y ≡ true → Counted x.links y.links v bx ax by ay
  pub one_last : (k l : Lays) → v k (length x.links) (length y.links) ≡ true → v l (length x.links) (length y.links) ≡ true → k ≡ l
  pub top_left : root_left x y v root ≡ true → (goes_up_at x.links (length x.links) ≡ true) × (bx (length x.links) ≡ 0) × (ax (length x.links) ≡ 0)
  pub top_right : root_right x y v root ≡ true → (goes_up_at y.links (length y.links) ≡ true) × (by (length y.links) ≡ 0) × (ay (length y.links) ≡ 0)
  pub left_positions : (i : ℕ) → i ≤ length x.links → All (PositionFits (root_left x y v root && (i == length x.links)) child (bx i) (ax i)) (nth_compound x.chain i)
  pub right_positions : (j : ℕ) → j ≤ length y.links → All (PositionFits (root_right x y v root && (j == length y.links)) child (by j) (ay j)) (nth_compound y.chain j)
  pub empties : (k : Lays) (i j : ℕ) → v k i j ≡ true → i ≤ length x.links → j ≤ length y.links → EmptyFits (node_above x y k i j) (node_simples x y k i j)
  pub features : (k : Lays) (i j : ℕ) → v k i j ≡ true → i ≤ length x.links → j ≤ length y.links → CanSuit (node_simples x y k i j)
  pub left_ids : (i j : ℕ) (id : List ℕ) → i ≤ length x.links → j ≤ length x.links → i ≢ j → Contains (filter_map asked_id (nth_compound x.chain i)) id → Contains (filter_map asked_id (nth_compound x.chain j)) id → ⊥
  pub right_ids : (i j : ℕ) (id : List ℕ) → i ≤ length y.links → j ≤ length y.links → i ≢ j → Contains (filter_map asked_id (nth_compound y.chain i)) id → Contains (filter_map asked_id (nth_compound y.chain j)) id → ⊥
  pub both_ids : (i j : ℕ) (id : List ℕ) → i ≤ length x.links → j ≤ length y.links → Contains (filter_map asked_id (nth_compound x.chain i)) id → Contains (filter_map asked_id (nth_compound y.chain j)) id →
      (k : Lays) (i' j' : ℕ) → i' ≤ length x.links → j' ≤ length y.links → v k i' j' ≡ true → (has_left k ≡ true → i' ≡ i → (has_right k ≡ true) × (j' ≡ j)) × (has_right k ≡ true → j' ≡ j → (has_left k ≡ true) × (i' ≡ i))
  pub pseudo : x.pseudo ≡ y.pseudo
