-- All conditions together.
use Rattle.std.proofs.Common.{Bool, IsTrue, List, [], ap, arith, false, inl, inr, length, not, refl, subst, suc, sym, true, zero, ℕ, ◌&&◌, ◌*◌, ◌+◌, ◌<◌, ◌||◌, ◌↔◌, ◌∙◌, ◌∷◌, ◌≡◌, ◌≢◌, ◌≤◌, ◌⊎◌}
use Rattle.std.proofs.lemmas.Bool.{and_from, and_parts, eqb-true}
use Rattle.std.specs.List.{All, filter_map, list_all}
use Rattle.std.specs.Prelude.{Contains, nat_lt, ◌==◌}
use Rattle.formula_laws.proofs.Items.Items.{Item, both_items, clauses_item}
use Rattle.formula_laws.proofs.Items.MoreItems.{below_item, item_as, when_item}
use Rattle.formula_laws.proofs.Items.Ranges.{next_below, node_below}
use Rattle.formula_laws.proofs.Numbers.Counted.{CountsSay, NamesBelow, counted_back, counted_means, counts_item, numbers}
use Rattle.formula_laws.proofs.Paths.Ends.{NodesFit, OneLast, TopSays, each_in_range, last_item, node_item, root_item, top_item, whole_item}
use Rattle.formula_laws.proofs.Paths.Pathway.{Goes, Joined, grid_means, path_back, path_means}
use Rattle.formula_laws.proofs.Tests.Tested.{CompoundSays, ZeroAtRoot, compound_back, compound_item, compound_means}
use Rattle.formula_laws.specs.Allowed.{Allowed, node_fits}
use Rattle.formula_laws.specs.Counts.{Names, with_counts}
use Rattle.formula_laws.specs.Formula.{SmallSteps, with_conditions, with_numbers, with_path, with_refusals, with_root, with_tests}
use Rattle.formula_laws.specs.Path.{each_below, links_fit, next_clauses, next_lits, node_lit, only_if, path_clauses, true_nodes}
use Rattle.formula_laws.specs.Positions.{with_positions}
use Rattle.cnf.proofs.ForCallers.{is_below-negation, one_below}
use Rattle.cnf.specs.Gates.{with_clauses}
use Rattle.cnf.specs.Lits.{are_below, is_below, negation}
use Rattle.cnf.specs.Sums.{number}
use Rattle.cnf.specs.Values.{all_hold, value}
use Rattle.cnf.specs.declared.lit.Lit.{Lit}
use Rattle.css_model.specs.Documents.Features.{CanSuit}
use Rattle.css_model.specs.Documents.SelectorParts.{SelectorParts}
use Rattle.css_model.specs.declared.selector.Combinator.{Combinator}
use Rattle.grid_laws.specs.Grid.{Grid, Lays, Nodes, has_left, has_right, goes_up_at, left_alone, right_alone, together}
use Rattle.grid_laws.specs.Solved.{Solved, node_above, node_simples, nth_compound, numbers_asked, root_left, root_right}
use Rattle.slot_plan.specs.Positions.{PositionFits}
use Rattle.slot_plan.specs.ValidShape.{EmptyFits, asked_id}

-- the path
path_item : (base m n : ℕ) → 3 * (suc m * suc n) ≤ base → Item base (λ f. with_clauses f (path_clauses m n)) (λ vs. (true_nodes (suc n) vs together 0 0 ≡ true) × Goes m n (true_nodes (suc n) vs))
path_item base m n room = item_as base (λ f. with_clauses f (path_clauses m n)) (λ vs. IsTrue (all_hold vs (path_clauses m n))) _ (path_means m n) (λ vs p. path_back m n vs p.0 p.1)
    (clauses_item base (path_clauses m n) (and_from (are_below base (node_lit (suc n) together 0 0 ∷ [])) _ (one_below base (node_lit (suc n) together 0 0) (node_below m n together 0 0 base (omega arith) (omega arith) room))
    (each_in_range base (λ i. each_below (suc n) (λ j. next_clauses m n i j)) (suc m) (λ i hi. each_in_range base (λ j. next_clauses m n i j) (suc n) (λ j hj.
    only (nat_lt (i + j) (m + n)) _ (and_from (are_below base (negation (node_lit (suc n) left_alone i j) ∷ next_lits m n i j)) _ (clause left_alone i j (omega arith) (omega arith))
    (and_from (are_below base (negation (node_lit (suc n) right_alone i j) ∷ next_lits m n i j)) _ (clause right_alone i j (omega arith) (omega arith))
    (and_from (are_below base (negation (node_lit (suc n) together i j) ∷ next_lits m n i j)) true (clause together i j (omega arith) (omega arith)) refl))))))))
  where
    only : (b : Bool) (cs : List (List Lit)) → IsTrue (list_all (are_below base) cs) → IsTrue (list_all (are_below base) (only_if b cs))
    only true cs h = h
    only false cs h = refl

    clause : (k : Lays) (i j : ℕ) → i ≤ m → j ≤ n → IsTrue (are_below base (negation (node_lit (suc n) k i j) ∷ next_lits m n i j))
    clause k i j hi hj = and_from (is_below base (negation (node_lit (suc n) k i j))) (are_below base (next_lits m n i j)) (is_below-negation base (node_lit (suc n) k i j) (node_below m n k i j base hi hj room)) (next_below m n i j base hi hj room)

unit_item : (base : ℕ) (l : Lit) → IsTrue (is_below base l) → Item base (λ f. with_clauses f ((l ∷ []) ∷ [])) (λ vs. value vs l ≡ true)
unit_item base l h = item_as base (λ f. with_clauses f ((l ∷ []) ∷ [])) (λ vs. IsTrue (all_hold vs ((l ∷ []) ∷ []))) (λ vs. value vs l ≡ true)
    (λ vs k. first (value vs l) k) (λ vs k. back (value vs l) k) (clauses_item base ((l ∷ []) ∷ []) (and_from (are_below base (l ∷ [])) true (one_below base l h) refl))
  where
    first : (b : Bool) → IsTrue ((b || false) && true) → b ≡ true
    first true h = refl
    first false h = h

    back : (b : Bool) → b ≡ true → IsTrue ((b || false) && true)
    back true h = refl
    back false h = h

-- what all clauses say
abbrev pub PathSays : SelectorParts → SelectorParts → List Bool → Type 0
PathSays x y vs = ((true_nodes (suc (length y.links)) vs together 0 0 ≡ true) × Goes (length x.links) (length y.links) (true_nodes (suc (length y.links)) vs))
    × OneLast (length x.links) (length y.links) (true_nodes (suc (length y.links)) vs)

abbrev pub RootSays : SelectorParts → SelectorParts → Names → List Bool → Type 0
RootSays x y names vs =
    (((value vs names.rx ≡ (value vs names.root && not (value vs (node_lit (suc (length y.links)) right_alone (length x.links) (length y.links)))))
    × (value vs names.ry ≡ (value vs names.root && not (value vs (node_lit (suc (length y.links)) left_alone (length x.links) (length y.links))))))
    × TopSays names.rx (goes_up_at x.links (length x.links)) (names.bx (length x.links)) (names.ax (length x.links)) vs)
    × TopSays names.ry (goes_up_at y.links (length y.links)) (names.by (length y.links)) (names.ay (length y.links)) vs

abbrev pub TestsSay : SelectorParts → SelectorParts → Names → List Bool → Type 0
TestsSay x y names vs =
    ((i : ℕ) → i < suc (length x.links) → CompoundSays (i == length x.links) (value vs names.rx) (value vs names.child) (number vs (names.bx i)) (number vs (names.ax i)) (nth_compound x.chain i))
    × ((j : ℕ) → j < suc (length y.links) → CompoundSays (j == length y.links) (value vs names.ry) (value vs names.child) (number vs (names.by j)) (number vs (names.ay j)) (nth_compound y.chain j))

abbrev pub RefusalsSay : SelectorParts → SelectorParts → Allowed → List Bool → Type 0
RefusalsSay x y allowed vs = NodesFit (length x.links) (length y.links) (node_fits x y allowed) (true_nodes (suc (length y.links)) vs) × (allowed.whole ≡ true)

abbrev pub NumbersSay : SelectorParts → SelectorParts → Names → List Bool → Type 0
NumbersSay x y names vs = (value vs names.one ≡ true) × CountsSay x.links y.links names vs

pub record Says (x y : SelectorParts) (allowed : Allowed) (names : Names) (vs : List Bool) : Type 0 where
  pub path : PathSays x y vs
  pub numbers : numbers_asked x y ≡ true → NumbersSay x y names vs
  pub root : RootSays x y names vs
  pub tests : TestsSay x y names vs
  pub refusals : RefusalsSay x y allowed vs

pub conditions_item : (base w : ℕ) (x y : SelectorParts) (allowed : Allowed) (names : Names) → NamesBelow base (length x.links) (length y.links) w names → SmallSteps x y → Item base (with_conditions x y allowed names) (Says x y allowed names)
conditions_item base w x y allowed names h small =
    item_as base (with_conditions x y allowed names) (λ vs. (((PathSays x y vs × (numbers_asked x y ≡ true → NumbersSay x y names vs)) × RootSays x y names vs) × TestsSay x y names vs) × RefusalsSay x y allowed vs) (Says x y allowed names)
    (λ vs p. record { path = p.0.0.0.0; numbers = p.0.0.0.1; root = p.0.0.1; tests = p.0.1; refusals = p.1 })
    (λ vs s. ((((s.path, s.numbers), s.root), s.tests), s.refusals))
    (both_items base _ _ _ _ (both_items base _ _ _ _ (both_items base _ _ _ _ (both_items base _ _ _ _ path counted) root) tests) refusals)
  where
    m : ℕ
    m = length x.links

    n : ℕ
    n = length y.links

    path : Item base (λ f. with_path x y f) (PathSays x y)
    path = both_items base _ _ _ _ (path_item base m n h.nodes) (last_item base m n h.nodes)

    counted : Item base (λ f. with_numbers x y names f) (λ vs. numbers_asked x y ≡ true → NumbersSay x y names vs)
    counted = when_item base (numbers_asked x y) (λ f. with_counts x.links y.links names (with_clauses f ((names.one ∷ []) ∷ []))) (NumbersSay x y names)
        (λ _. both_items base _ _ _ _ (unit_item base names.one h.one) (counts_item base w x.links y.links names h))

    root : Item base (λ f. with_root x y names f) (RootSays x y names)
    root = both_items base _ _ _ _ (both_items base _ _ _ _ (both_items base _ _ _ _
        (root_item base names.rx names.root (node_lit (suc n) right_alone m n) h.rx h.root (node_below m n right_alone m n base (omega arith) (omega arith) h.nodes))
        (root_item base names.ry names.root (node_lit (suc n) left_alone m n) h.ry h.root (node_below m n left_alone m n base (omega arith) (omega arith) h.nodes)))
        (top_item base names.rx (goes_up_at x.links m) (names.bx m) (names.ax m) h.rx (h.bx m (omega arith)).0 (h.ax m (omega arith)).0))
        (top_item base names.ry (goes_up_at y.links n) (names.by n) (names.ay n) h.ry (h.by n (omega arith)).0 (h.ay n (omega arith)).0)

    tests : Item base (λ f. with_tests x y names f) (TestsSay x y names)
    tests = both_items base _ _ _ _
        (below_item base (suc m) (λ i f. with_positions (i == m) names.rx names.child (names.bx i) (names.ax i) (nth_compound x.chain i) f) (λ i vs. CompoundSays (i == m) (value vs names.rx) (value vs names.child) (number vs (names.bx i)) (number vs (names.ax i)) (nth_compound x.chain i))
        (λ i hi. compound_item base (i == m) names.rx names.child (names.bx i) (names.ax i) (nth_compound x.chain i) h.rx h.child (h.bx i (omega arith)).0 (h.ax i (omega arith)).0 (small.left i)))
        (below_item base (suc n) (λ j f. with_positions (j == n) names.ry names.child (names.by j) (names.ay j) (nth_compound y.chain j) f) (λ j vs. CompoundSays (j == n) (value vs names.ry) (value vs names.child) (number vs (names.by j)) (number vs (names.ay j)) (nth_compound y.chain j))
        (λ j hj. compound_item base (j == n) names.ry names.child (names.by j) (names.ay j) (nth_compound y.chain j) h.ry h.child (h.by j (omega arith)).0 (h.ay j (omega arith)).0 (small.right j)))

    refusals : Item base (λ f. with_refusals x y allowed f) (RefusalsSay x y allowed)
    refusals = both_items base _ _ _ _ (node_item base m n (node_fits x y allowed) h.nodes) (whole_item base allowed.whole)

-- what a judge of nodes and of the pair is to decide
abbrev pub IdsFit : SelectorParts → SelectorParts → Lays → ℕ → ℕ → Type 0
IdsFit x y k i' j' = (i j : ℕ) (id : List ℕ) → i ≤ length x.links → j ≤ length y.links → Contains (filter_map asked_id (nth_compound x.chain i)) id → Contains (filter_map asked_id (nth_compound y.chain j)) id →
    (has_left k ≡ true → i' ≡ i → (has_right k ≡ true) × (j' ≡ j)) × (has_right k ≡ true → j' ≡ j → (has_left k ≡ true) × (i' ≡ i))

abbrev pub OwnIdsFit : SelectorParts → Type 0
OwnIdsFit x = (i j : ℕ) (id : List ℕ) → i ≤ length x.links → j ≤ length x.links → i ≢ j → Contains (filter_map asked_id (nth_compound x.chain i)) id → Contains (filter_map asked_id (nth_compound x.chain j)) id → ⊥

pub record AllowedMeans (x y : SelectorParts) (allowed : Allowed) : Type 0 where
  pub empties : (k : Lays) (i j : ℕ) → i ≤ length x.links → j ≤ length y.links → (allowed.empties k i j ≡ true) ↔ EmptyFits (node_above x y k i j) (node_simples x y k i j)
  pub features : (k : Lays) (i j : ℕ) → i ≤ length x.links → j ≤ length y.links → links_fit x.links y.links k i j ≡ true → (allowed.features k i j ≡ true) ↔ CanSuit (node_simples x y k i j)
  pub ids : (k : Lays) (i j : ℕ) → i ≤ length x.links → j ≤ length y.links → (allowed.ids k i j ≡ true) ↔ IdsFit x y k i j
  pub whole : (allowed.whole ≡ true) ↔ (OwnIdsFit x × OwnIdsFit y × (x.pseudo ≡ y.pseudo))

zero_left : (r : Bool) (m i before after : ℕ) (b a : ℕ → ℕ) → (r ≡ true → (b m ≡ 0) × (a m ≡ 0)) → ZeroAtRoot r (i == m) (b i) (a i)
zero_left r m i before after b a top e e' = let same : i ≡ m = eqb-true i m e' in let t = top e in (ap b same ∙ t.0, ap a same ∙ t.1)

abbrev pub SolvedAt : SelectorParts → SelectorParts → Names → List Bool → Type 0
SolvedAt x y names vs = Solved x y (true_nodes (suc (length y.links)) vs) (numbers vs names.bx) (numbers vs names.ax) (numbers vs names.by) (numbers vs names.ay) (value vs names.root) (value vs names.child)

-- the parts of an allowed node
record Parts (x y : SelectorParts) (allowed : Allowed) (k : Lays) (i j : ℕ) : Type 0 where
  links : links_fit x.links y.links k i j ≡ true
  empties : allowed.empties k i j ≡ true
  ids : allowed.ids k i j ≡ true
  features : allowed.features k i j ≡ true

parts_of : (x y : SelectorParts) (allowed : Allowed) (k : Lays) (i j : ℕ) → node_fits x y allowed k i j ≡ true → Parts x y allowed k i j
parts_of x y allowed k i j h =
    let a = and_parts (links_fit x.links y.links k i j) (allowed.empties k i j && (allowed.ids k i j && allowed.features k i j)) h in
    let b = and_parts (allowed.empties k i j) (allowed.ids k i j && allowed.features k i j) a.1 in
    let c = and_parts (allowed.ids k i j) (allowed.features k i j) b.1 in
    record { links = a.0; empties = b.0; ids = c.0; features = c.1 }

-- so the combinators allow the true nodes
joined_by : (x y : SelectorParts) (allowed : Allowed) (v : Nodes) → NodesFit (length x.links) (length y.links) (node_fits x y allowed) v → Joined x.links y.links v
joined_by x y allowed v fits = record {
  left = λ i j hi hj t. (parts_of x y allowed left_alone i j (fits left_alone i j hi hj t)).links;
  right = λ i j hi hj t. (parts_of x y allowed right_alone i j (fits right_alone i j hi hj t)).links;
  both = λ i j hi hj t. (parts_of x y allowed together i j (fits together i j hi hj t)).links;
}

pub says_solved : (x y : SelectorParts) (allowed : Allowed) (names : Names) (vs : List Bool) → length x.chain ≡ suc (length x.links) → length y.chain ≡ suc (length y.links) → AllowedMeans x y allowed → Says x y allowed names vs → SolvedAt x y names vs
says_solved x y allowed names vs lx ly allowed_means s =
    let m = length x.links in
    let n = length y.links in
    let v = true_nodes (suc n) vs in
    let joined = joined_by x y allowed v s.refusals.0 in
    let part : (k : Lays) (i j : ℕ) → i ≤ m → j ≤ n → v k i j ≡ true → Parts x y allowed k i j = λ k i j hi hj t. parts_of x y allowed k i j (s.refusals.0 k i j hi hj t) in
    let rx = s.root.0.0.0 in
    let ry = s.root.0.0.1 in
    record {
      length_left = lx;
      length_right = ly;
      start = s.path.0.0;
      grid = grid_means x.links y.links v s.path.0.1 joined;
      counted = λ asked. counted_means x.links y.links names vs (s.numbers asked).0 joined (s.numbers asked).1;
      one_last = s.path.1.one;
      top_left = λ e. s.root.0.1 (rx ∙ e);
      top_right = λ e. s.root.1 (ry ∙ e);
      left_positions = λ i hi. subst (λ r. All (PositionFits (r && (i == m)) (value vs names.child) (numbers vs names.bx i) (numbers vs names.ax i)) (nth_compound x.chain i)) rx
          (compound_means (i == m) (value vs names.rx) (value vs names.child) (numbers vs names.bx i) (numbers vs names.ax i) (nth_compound x.chain i)
          (zero_left (value vs names.rx) m i 0 0 (numbers vs names.bx) (numbers vs names.ax) (λ e. ((s.root.0.1 e).1, (s.root.0.1 e).2))) (s.tests.0 i (omega arith)));
      right_positions = λ j hj. subst (λ r. All (PositionFits (r && (j == n)) (value vs names.child) (numbers vs names.by j) (numbers vs names.ay j)) (nth_compound y.chain j)) ry
          (compound_means (j == n) (value vs names.ry) (value vs names.child) (numbers vs names.by j) (numbers vs names.ay j) (nth_compound y.chain j)
          (zero_left (value vs names.ry) n j 0 0 (numbers vs names.by) (numbers vs names.ay) (λ e. ((s.root.1 e).1, (s.root.1 e).2))) (s.tests.1 j (omega arith)));
      empties = λ k i j t hi hj. (allowed_means.empties k i j hi hj).0 (part k i j hi hj t).empties;
      features = λ k i j t hi hj. (allowed_means.features k i j hi hj (part k i j hi hj t).links).0 (part k i j hi hj t).features;
      left_ids = (allowed_means.whole.0 s.refusals.1).0;
      right_ids = (allowed_means.whole.0 s.refusals.1).1;
      both_ids = λ i j id hi hj hx hy k i' j' hi' hj' t. (allowed_means.ids k i' j' hi' hj').0 (part k i' j' hi' hj' t).ids i j id hi hj hx hy;
      pseudo = (allowed_means.whole.0 s.refusals.1).2;
    }

-- a walk through the grid comes to the last cell
pub ends : (xl yl : List Combinator) (v : Nodes) → Grid xl yl v → (fuel : ℕ) (k : Lays) (i j : ℕ) → i ≤ length xl → j ≤ length yl → length xl + length yl ≤ fuel + (i + j) → v k i j ≡ true →
    (v left_alone (length xl) (length yl) ≡ true) ⊎ ((v right_alone (length xl) (length yl) ≡ true) ⊎ (v together (length xl) (length yl) ≡ true))
ends xl yl v grid zero k i j hi hj less t = by k (let ei : i ≡ length xl = omega arith in let ej : j ≡ length yl = omega arith in subst (λ (a : ℕ). v k a (length yl) ≡ true) ei (subst (λ (b : ℕ). v k i b ≡ true) ej t))
  where
    by : (k : Lays) → v k (length xl) (length yl) ≡ true → (v left_alone (length xl) (length yl) ≡ true) ⊎ ((v right_alone (length xl) (length yl) ≡ true) ⊎ (v together (length xl) (length yl) ≡ true))
    by left_alone t = inl t
    by right_alone t = inr (inl t)
    by together t = inr (inr t)
ends xl yl v grid (suc fuel) k i j hi hj less t = elim (or_last (i + j) (length xl + length yl) (omega arith)) [
  | inl more ↦ elim (grid.go k i j t hi hj more) [
    | inl way ↦ ends xl yl v grid fuel left_alone (suc i) j (let h = way.0 in omega arith) hj (omega arith) way.1
    | inr rest ↦ elim rest [
      | inl way ↦ ends xl yl v grid fuel right_alone i (suc j) hi (let h = way.0 in omega arith) (omega arith) way.1
      | inr way ↦ ends xl yl v grid fuel together (suc i) (suc j) (let h = way.0 in omega arith) (let h = way.1 in omega arith) (omega arith) way.2
    ]
  ]
  | inr last ↦ ends xl yl v grid fuel k i j hi hj (omega arith) t
]
  where
    or_last : (a b : ℕ) → a ≤ b → (a < b) ⊎ (a ≡ b)
    or_last a b h = grind arith

pub solved_says : (x y : SelectorParts) (allowed : Allowed) (names : Names) (vs : List Bool) → AllowedMeans x y allowed → SolvedAt x y names vs → Joined x.links y.links (true_nodes (suc (length y.links)) vs) → value vs names.one ≡ true →
    value vs names.rx ≡ root_left x y (true_nodes (suc (length y.links)) vs) (value vs names.root) → value vs names.ry ≡ root_right x y (true_nodes (suc (length y.links)) vs) (value vs names.root) → Says x y allowed names vs
solved_says x y allowed names vs allowed_means s joined one rx ry =
    let m = length x.links in
    let n = length y.links in
    record {
      path = ((s.start, s.grid.go), record { some = ends x.links y.links (true_nodes (suc n) vs) s.grid (m + n) together 0 0 (omega arith) (omega arith) (omega arith) s.start; one = s.one_last });
      numbers = λ asked. (one, counted_back x.links y.links names vs one (s.counted asked));
      root = (((rx, ry), λ e. s.top_left (sym rx ∙ e)), λ e. s.top_right (sym ry ∙ e));
      tests = (
        λ i hi. compound_back (i == m) (value vs names.rx) (value vs names.child) (numbers vs names.bx i) (numbers vs names.ax i) (nth_compound x.chain i)
            (zero_left (value vs names.rx) m i 0 0 (numbers vs names.bx) (numbers vs names.ax) (λ e. ((s.top_left (sym rx ∙ e)).1, (s.top_left (sym rx ∙ e)).2)))
            (subst (λ r. All (PositionFits (r && (i == m)) (value vs names.child) (numbers vs names.bx i) (numbers vs names.ax i)) (nth_compound x.chain i)) (sym rx) (s.left_positions i (omega arith))),
        λ j hj. compound_back (j == n) (value vs names.ry) (value vs names.child) (numbers vs names.by j) (numbers vs names.ay j) (nth_compound y.chain j)
            (zero_left (value vs names.ry) n j 0 0 (numbers vs names.by) (numbers vs names.ay) (λ e. ((s.top_right (sym ry ∙ e)).1, (s.top_right (sym ry ∙ e)).2)))
            (subst (λ r. All (PositionFits (r && (j == n)) (value vs names.child) (numbers vs names.by j) (numbers vs names.ay j)) (nth_compound y.chain j)) (sym ry) (s.right_positions j (omega arith))),
      );
      refusals = (
        λ k i j hi hj t.
            let links = links_by k i j hi hj t in
            and_from (links_fit x.links y.links k i j) (allowed.empties k i j && (allowed.ids k i j && allowed.features k i j)) links
            (and_from (allowed.empties k i j) (allowed.ids k i j && allowed.features k i j) ((allowed_means.empties k i j hi hj).1 (s.empties k i j t hi hj))
            (and_from (allowed.ids k i j) (allowed.features k i j) ((allowed_means.ids k i j hi hj).1 (λ i' j' id hi' hj' hx hy. s.both_ids i' j' id hi' hj' hx hy k i j hi hj t))
            ((allowed_means.features k i j hi hj links).1 (s.features k i j t hi hj)))),
        allowed_means.whole.1 (s.left_ids, s.right_ids, s.pseudo),
      );
    }
  where
    links_by : (k : Lays) (i j : ℕ) → i ≤ length x.links → j ≤ length y.links → true_nodes (suc (length y.links)) vs k i j ≡ true → links_fit x.links y.links k i j ≡ true
    links_by left_alone i j hi hj t = joined.left i j hi hj t
    links_by right_alone i j hi hj t = joined.right i j hi hj t
    links_by together i j hi hj t = joined.both i j hi hj t
