-- The formula of two selectors.
use Rattle.std.specs.Prelude.{[], if◌then◌else◌, length, suc, ℕ, ◌*◌, ◌+◌, ◌==◌, ◌∷◌}
use Rattle.formula_laws.specs.Allowed.{Allowed, node_clauses, node_fits, whole_clauses}
use Rattle.formula_laws.specs.Counts.{Names, steps_below, when, with_counts}
use Rattle.formula_laws.specs.Hinted.{with_hints}
use Rattle.formula_laws.specs.Path.{last_clauses, node_lit, path_clauses}
use Rattle.formula_laws.specs.Positions.{AreSmallTests, with_positions}
use Rattle.formula_laws.specs.Relations.{literals}
use Rattle.formula_laws.specs.Root.{root_clauses, top_clauses}
use Rattle.cnf.specs.Cnf.{Cnf}
use Rattle.cnf.specs.Gates.{with_clauses}
use Rattle.cnf.specs.Lits.{positive}
use Rattle.css_model.specs.Documents.SelectorParts.{SelectorParts}
use Rattle.grid_laws.specs.Grid.{goes_up_at, left_alone, right_alone}
use Rattle.grid_laws.specs.Solved.{nth_compound, numbers_asked}

-- the path through the grid
abbrev pub with_path : SelectorParts → SelectorParts → Cnf → Cnf
with_path x y f = with_clauses (with_clauses f (path_clauses (length x.links) (length y.links))) (last_clauses (length x.links) (length y.links))

-- the numbers of siblings, where some test looks at them
abbrev pub with_numbers : SelectorParts → SelectorParts → Names → Cnf → Cnf
with_numbers x y names = when (numbers_asked x y) (λ f. with_counts x.links y.links names (with_clauses f ((names.one ∷ []) ∷ [])))

-- the root
abbrev pub with_root : SelectorParts → SelectorParts → Names → Cnf → Cnf
with_root x y names f =
    let m = length x.links in
    let n = length y.links in
    let a = with_clauses f (root_clauses names.rx names.root (node_lit (suc n) right_alone m n)) in
    let b = with_clauses a (root_clauses names.ry names.root (node_lit (suc n) left_alone m n)) in
    let c = with_clauses b (top_clauses names.rx (goes_up_at x.links m) (names.bx m) (names.ax m)) in
    with_clauses c (top_clauses names.ry (goes_up_at y.links n) (names.by n) (names.ay n))

-- the tests of positions of both selectors
abbrev pub with_tests : SelectorParts → SelectorParts → Names → Cnf → Cnf
with_tests x y names f =
    let left = steps_below (suc (length x.links)) (λ i. with_positions (i == length x.links) names.rx names.child (names.bx i) (names.ax i) (nth_compound x.chain i)) f in
    steps_below (suc (length y.links)) (λ j. with_positions (j == length y.links) names.ry names.child (names.by j) (names.ay j) (nth_compound y.chain j)) left

-- what is refused
abbrev pub with_refusals : SelectorParts → SelectorParts → Allowed → Cnf → Cnf
with_refusals x y allowed f =
    let m = length x.links in
    let n = length y.links in
    with_clauses (with_clauses f (node_clauses m n (node_fits x y allowed))) (whole_clauses allowed.whole)

-- all conditions
abbrev pub with_conditions : SelectorParts → SelectorParts → Allowed → Names → Cnf → Cnf
with_conditions x y allowed names f =
    with_refusals x y allowed (with_tests x y names (with_root x y names (with_numbers x y names (with_path x y f))))

-- all conditions, and the hints behind them
abbrev pub with_all : SelectorParts → SelectorParts → Allowed → Names → Cnf → Cnf
with_all x y allowed names f = with_hints x y names (with_conditions x y allowed names f)

-- the first variables: nodes, root, child, rx, ry, one, and the numbers before and after each compound
abbrev pub nodes_end : ℕ → ℕ → ℕ
nodes_end m n = 3 * (suc m * suc n)

-- where the q-th number of siblings begins
abbrev pub slot_at : ℕ → ℕ → ℕ → ℕ → ℕ
slot_at m n w q = nodes_end m n + 5 + q * w

-- how many there are
abbrev pub first_vars : ℕ → ℕ → ℕ → ℕ
first_vars m n w = slot_at m n w (2 * suc m + 2 * suc n)

-- their literals
abbrev pub names_of : ℕ → ℕ → ℕ → Names
names_of m n w = record {
  root = positive (nodes_end m n);
  child = positive (nodes_end m n + 1);
  rx = positive (nodes_end m n + 2);
  ry = positive (nodes_end m n + 3);
  one = positive (nodes_end m n + 4);
  bx = λ i. literals (slot_at m n w (2 * i)) w;
  ax = λ i. literals (slot_at m n w (2 * i + 1)) w;
  by = λ j. literals (slot_at m n w (2 * suc m + 2 * j)) w;
  ay = λ j. literals (slot_at m n w (2 * suc m + 2 * j + 1)) w;
}

-- the formula with numbers of w digits
abbrev pub formula_with : ℕ → Allowed → SelectorParts → SelectorParts → Cnf
formula_with w allowed x y =
    with_all x y allowed (names_of (length x.links) (length y.links) w) (record { vars = first_vars (length x.links) (length y.links) w; clauses = [] })

-- how many digits the numbers have: none where no test looks at them
abbrev pub digits_for : ℕ → SelectorParts → SelectorParts → ℕ
digits_for w x y = if numbers_asked x y then w else 0

-- the formula of two selectors
abbrev pub formula_of : ℕ → Allowed → SelectorParts → SelectorParts → Cnf
formula_of w allowed x y = formula_with (digits_for w x y) allowed x y

-- the steps that the division takes are small everywhere
pub record SmallSteps (x y : SelectorParts) : Type 0 where
  pub left : (i : ℕ) → AreSmallTests (nth_compound x.chain i)
  pub right : (j : ℕ) → AreSmallTests (nth_compound y.chain j)
