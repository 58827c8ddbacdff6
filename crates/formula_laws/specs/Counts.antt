-- The numbers of siblings before and behind the compounds, as clauses.
use Rattle.std.specs.Prelude.{Bool, List, [], false, length, not, suc, true, zero, ℕ, ◌&&◌, ◌++◌, ◌∷◌}
use Rattle.formula_laws.specs.Path.{both_fit, left_fits, node_lit, right_fits}
use Rattle.formula_laws.specs.Relations.{same_digits, with_less, with_sum}
use Rattle.cnf.specs.Cnf.{Cnf}
use Rattle.cnf.specs.Gates.{with_clauses}
use Rattle.cnf.specs.Lits.{negation}
use Rattle.cnf.specs.Sums.{with_adder}
use Rattle.cnf.specs.declared.lit.Lit.{Lit}
use Rattle.css_model.specs.declared.selector.Combinator.{Combinator}
use Rattle.css_model.specs.declared.selector.Combinator.TheVariants.{Child, Inside, Later, Next}
use Rattle.grid_laws.specs.Grid.{goes_up_at, left_alone, right_alone, together}

-- a step where a test holds
abbrev pub when : Bool → (Cnf → Cnf) → Cnf → Cnf
when true step f = step f
when false step f = f

-- a step for 0, 1, .. up to n - 1
abbrev pub steps_below : ℕ → (ℕ → Cnf → Cnf) → Cnf → Cnf
steps_below zero step f = f
steps_below (suc n) step f = step n (steps_below n step f)

-- the clauses hold where the literal is true
abbrev pub implied : Lit → List (List Lit) → List (List Lit)
implied l [] = []
implied l (c ∷ cs) = (negation l ∷ c) ∷ implied l cs

-- the first variables that are no nodes, as literals: the numbers of siblings before and after each compound
pub record Names : Type 0 where
  pub root : Lit
  pub child : Lit
  pub rx : Lit
  pub ry : Lit
  pub one : Lit
  pub bx : ℕ → List Lit
  pub ax : ℕ → List Lit
  pub by : ℕ → List Lit
  pub ay : ℕ → List Lit

-- x + y = z + u
abbrev pub with_equal_sums : List Lit → List Lit → List Lit → List Lit → Cnf → Cnf
with_equal_sums x y z u f =
    let s = with_adder f x y in
    let t = with_adder s.0 z u in
    with_clauses t.0 (same_digits s.1 t.1)

-- the numbers of two neighbouring compounds of a chain
abbrev pub with_link : Combinator → List Lit → List Lit → List Lit → List Lit → Lit → Cnf → Cnf
with_link Inside b b' a a' one f = f
with_link Child b b' a a' one f = f
with_link Next b b' a a' one f = with_sum a (one ∷ []) a' (with_sum b' (one ∷ []) b f)
with_link Later b b' a a' one f = with_equal_sums b' a' b a (with_less [] b' b f)

-- the numbers of a chain, along all its combinators
abbrev pub with_run : List Combinator → (ℕ → List Lit) → (ℕ → List Lit) → Lit → Cnf → Cnf
with_run [] b a one f = f
with_run (link ∷ links) b a one f = with_run links (λ i. b (suc i)) (λ i. a (suc i)) one (with_link link (b 0) (b 1) (a 0) (a 1) one f)

-- the numbers of two compounds in one slot
abbrev pub with_equal : List Combinator → List Combinator → Names → ℕ → ℕ → Cnf → Cnf
with_equal xl yl names i j = when (both_fit xl yl i j) (λ f. with_clauses f
    (implied (node_lit (suc (length yl)) together i j) (same_digits (names.bx i) (names.by j) ++ same_digits (names.ax i) (names.ay j))))

-- whether a left compound may stand right behind a right one, and is no parent
abbrev pub left_follows : List Combinator → List Combinator → ℕ → ℕ → Bool
left_follows xl yl i j = not (goes_up_at xl (suc i)) && (right_fits xl yl i j && left_fits xl yl (suc i) j)

-- the same for a right one behind a left one
abbrev pub right_follows : List Combinator → List Combinator → ℕ → ℕ → Bool
right_follows xl yl i j = not (goes_up_at yl (suc j)) && (left_fits xl yl i j && right_fits xl yl i (suc j))

-- the order of neighbours of which no combinator speaks
abbrev pub with_order_left : List Combinator → List Combinator → Names → ℕ → ℕ → Cnf → Cnf
with_order_left xl yl names i j = when (left_follows xl yl i j)
    (with_less (negation (node_lit (suc (length yl)) right_alone i j) ∷ negation (node_lit (suc (length yl)) left_alone (suc i) j) ∷ []) (names.bx (suc i)) (names.by j))

-- the same for the other selector
abbrev pub with_order_right : List Combinator → List Combinator → Names → ℕ → ℕ → Cnf → Cnf
with_order_right xl yl names i j = when (right_follows xl yl i j)
    (with_less (negation (node_lit (suc (length yl)) left_alone i j) ∷ negation (node_lit (suc (length yl)) right_alone i (suc j)) ∷ []) (names.by (suc j)) (names.bx i))

-- the numbers of siblings of all compounds
abbrev pub with_counts : List Combinator → List Combinator → Names → Cnf → Cnf
with_counts xl yl names f =
    let left = with_run xl names.bx names.ax names.one f in
    let right = with_run yl names.by names.ay names.one left in
    let equal = steps_below (suc (length xl)) (λ i. steps_below (suc (length yl)) (with_equal xl yl names i)) right in
    let order = steps_below (length xl) (λ i. steps_below (suc (length yl)) (with_order_left xl yl names i)) equal in
    steps_below (suc (length xl)) (λ i. steps_below (length yl) (with_order_right xl yl names i)) order
