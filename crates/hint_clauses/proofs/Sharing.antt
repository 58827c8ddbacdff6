-- Hints on two runs that share a slot.
use Rattle.std.proofs.Common.{Bool, List, Option, [], zero, ap, append-nil, arith, false, inl, inr, length, map, refl, subst, suc, sym, true, ℕ, ◌&&◌, ◌++◌, ◌+◌, ◌-◌, ◌<◌, ◌∙◌, ◌∷◌, ◌≡◌, ◌≤◌}
use Rattle.std.proofs.lemmas.Bool.{and_cases, and_from, and_left, and_parts, and_right, le-leb, lt-leb, ne_eqb}
use Rattle.std.proofs.lemmas.List.{append_assoc}
use Rattle.std.specs.List.{AllByRecursion}
use Rattle.std.specs.Prelude.{nat_le, not, ◌==◌}
use Rattle.cnf.proofs.ForCallers.{division-grows}
use Rattle.cnf.specs.Cnf.{Cnf}
use Rattle.cnf.specs.Gates.{with_clauses}
use Rattle.cnf.specs.Numbers.{Divided, with_division}
use Rattle.cnf.specs.declared.lit.Lit.{Lit}
use Rattle.css_model.specs.Documents.SelectorParts.{SelectorParts}
use Rattle.formula_laws.specs.Asked.{aside, run_rests, starts_run}
use Rattle.formula_laws.specs.Counts.{implied, steps_below, when}
use Rattle.formula_laws.specs.Hints.{Owns, cell_rests, is_cell, rest_clauses, shared_rests, with_shared}
use Rattle.formula_laws.specs.Path.{each_below, node_lit, only_if}
use Rattle.formula_laws.specs.declared.count.Count.{Count}
use Rattle.formula_laws.specs.declared.count.Count.TheVariants.{Before, Behind}
use Rattle.grid_laws.specs.Grid.{together}
use Rattle.hint_clauses.proofs.Briefly.{all_short, aside_all_short}
use Rattle.hint_clauses.specs.Cells.{with_cells}
use Rattle.hint_clauses.specs.Chains.{owns_at, row_at, row_of}
use Rattle.remainders.proofs.ForCallers.{joint_same}
use Rattle.remainders.specs.Remainders.{joint_rest, joint_step, most_joint}
use Rattle.remainders.specs.Sizes.{IsShort}
use Rattle.remainders.specs.declared.remainder.Remainder.{Remainder}
use Rattle.sibling_clauses.proofs.ForCallers.{Grows, added_none, steps_grow, when_grows}
use Rattle.sibling_clauses.specs.Bounds.{IsWhole}
use Rattle.sibling_clauses.specs.declared.numbering.Numbering.{Numbering}

-- what is not nothing is one at least
pub some_read : (n : ℕ) → not (n == 0) ≡ nat_le 1 n
some_read zero = refl
some_read (suc n) = ap not (ne_eqb (suc n) 0 (λ e. let q : suc n ≡ 0 = e in omega arith)) ∙ sym (le-leb 1 (suc n) (omega arith))

-- remainders that are moved, one after the other
pub aside_more : (count : Count) (right left : ℕ) (r moved : Remainder) (rs old mid new : List Remainder) → moved ≡ aside count right left r → mid ≡ old ++ moved ∷ [] → new ≡ mid ++ map (aside count right left) rs →
    new ≡ old ++ map (aside count right left) (r ∷ rs)
aside_more count right left r moved rs old mid new e em en =
    en ∙ ap (λ (xs : List Remainder). xs ++ map (aside count right left) rs) em ∙ append_assoc old (moved ∷ []) (map (aside count right left) rs)
    ∙ ap (λ (m : Remainder). old ++ (m ∷ map (aside count right left) rs)) e

pub aside_end : (count : Count) (right left : ℕ) (old : List Remainder) → old ≡ old ++ map (aside count right left) []
aside_end count right left old = sym (append-nil old)

pub ruleset aside_added = (aside_more, aside_end)

-- what two runs ask together is short, and its joint step does not depend on the cell
aside_step : (count : Count) (right left : ℕ) (r : Remainder) → (aside count right left r).step ≡ r.step
aside_step Before right left r = refl
aside_step Behind right left r = refl

pub shared_short : (count : Count) (right left : ℕ) (rx ry rests : List Remainder) → rests ≡ shared_rests count rx ry right left → AllByRecursion IsShort rx → AllByRecursion IsShort ry → AllByRecursion IsShort rests
shared_short count right left rx ry rests e hx hy = subst (AllByRecursion IsShort) (sym e) (all_short rx (map (aside count right left) ry) hx (aside_all_short count right left ry hy))

pub shared_few : (count : Count) (right left : ℕ) (rx ry rests : List Remainder) → rests ≡ shared_rests count rx ry right left → joint_step (rx ++ ry) ≤ most_joint → joint_step rests ≤ most_joint
shared_few count right left rx ry rests e few =
    subst (λ (n : ℕ). n ≤ most_joint) (sym (ap joint_step e ∙ joint_same (aside count right left) (aside_step count right left) rx ry)) few

-- a cell of two runs
pub cell_here : (count : Count) (x y : SelectorParts) (p q i j n : ℕ) (remainder : List Lit) (rx ry : List Remainder) (l : Lit) (rest : Option ℕ) (f h : Cnf) → is_cell x y p q i j ≡ true →
    rx ≡ run_rests count x.links x.chain p → ry ≡ run_rests count y.links y.chain q → rest ≡ joint_rest (shared_rests count rx ry (i - p) (j - q)) → l ≡ node_lit (suc n) together i j → length y.links ≡ n →
    h ≡ with_clauses f (implied l (rest_clauses remainder rest)) → h ≡ with_clauses f (cell_rests count x y p q remainder i j)
cell_here count x y p q i j n remainder rx ry l rest f h cell ex ey er el en eh =
    let asked : List Remainder → List Remainder → Option ℕ = λ rs ss. joint_rest (shared_rests count rs ss (i - p) (j - q)) in
    let node : Lit = node_lit (suc (length y.links)) together i j in
    eh ∙ ap (λ (k : Lit). with_clauses f (implied k (rest_clauses remainder rest))) (el ∙ ap (λ (m : ℕ). node_lit (suc m) together i j) (sym en))
    ∙ ap (λ (o : Option ℕ). with_clauses f (implied node (rest_clauses remainder o))) (er ∙ ap (λ rs. asked rs ry) ex ∙ ap (λ ss. asked (run_rests count x.links x.chain p) ss) ey)
    ∙ sym (ap (λ b. with_clauses f (only_if b (implied node (rest_clauses remainder (asked (run_rests count x.links x.chain p) (run_rests count y.links y.chain q)))))) cell)

pub cell_out : (count : Count) (x y : SelectorParts) (p q i j : ℕ) (remainder : List Lit) (f : Cnf) → is_cell x y p q i j ≡ false → f ≡ with_clauses f (cell_rests count x y p q remainder i j)
cell_out count x y p q i j remainder f none =
    sym (ap (λ b. with_clauses f (only_if b (implied (node_lit (suc (length y.links)) together i j)
    (rest_clauses remainder (joint_rest (shared_rests count (run_rests count x.links x.chain p) (run_rests count y.links y.chain q) (i - p) (j - q))))))) none ∙ added_none f)

-- the division of two runs, by what is at hand
division_as : (x y : SelectorParts) (g : Numbering) (count : Count) (p q row step : ℕ) (rx ry : List Remainder) (n : List Lit) (f : Cnf) → rx ≡ run_rests count x.links x.chain p → ry ≡ run_rests count y.links y.chain q →
    step ≡ joint_step (rx ++ ry) → row ≡ row_of g count false → n ≡ row_at g row p →
    with_division f n step ≡ with_division f ((owns_at g count).left p) (joint_step (run_rests count x.links x.chain p ++ run_rests count y.links y.chain q))
division_as x y g count p q row step rx ry n f ex ey es er en =
    ap (λ (l : List Lit). with_division f l step) (en ∙ ap (λ (r : ℕ). row_at g r p) er)
    ∙ ap (λ (s : ℕ). with_division f (row_at g (row_of g count false) p) s) (es ∙ ap (λ (rs : List Remainder). joint_step (rs ++ ry)) ex ∙ ap (λ (rs : List Remainder). joint_step (run_rests count x.links x.chain p ++ rs)) ey)

pub division_room : (x y : SelectorParts) (g : Numbering) (count : Count) (p q row step most : ℕ) (rx ry : List Remainder) (n : List Lit) (f : Cnf) → rx ≡ run_rests count x.links x.chain p → ry ≡ run_rests count y.links y.chain q →
    step ≡ joint_step (rx ++ ry) → row ≡ row_of g count false → n ≡ row_at g row p → (with_cells x y (owns_at g count) p q f).vars ≤ most → (with_division f n step).formula.vars ≤ most
division_room x y g count p q row step most rx ry n f ex ey es er en room =
    subst (λ (d : Divided). d.formula.vars ≤ most) (sym (division_as x y g count p q row step rx ry n f ex ey es er en)) room

pub cells_made : (x y : SelectorParts) (g : Numbering) (count : Count) (p q row step : ℕ) (rx ry : List Remainder) (n remainder : List Lit) (f k h : Cnf) → IsWhole x g.left → IsWhole y g.right →
    rx ≡ run_rests count x.links x.chain p → ry ≡ run_rests count y.links y.chain q → step ≡ joint_step (rx ++ ry) → row ≡ row_of g count false → n ≡ row_at g row p →
    k ≡ (with_division f n step).formula → remainder ≡ (with_division f n step).remainder →
    h ≡ with_clauses k (each_below (g.left + 1) (λ i. each_below (g.right + 1) (λ j. cell_rests count x y p q remainder i j))) → h ≡ with_cells x y (owns_at g count) p q f
cells_made x y g count p q row step rx ry n remainder f k h hx hy ex ey es er en ek em eh =
    let lx = hx.links in
    let ly = hy.links in
    let rows : g.left + 1 ≡ suc (length x.links) = omega arith in
    let columns : g.right + 1 ≡ suc (length y.links) = omega arith in
    let cells : Cnf → List Lit → ℕ → ℕ → Cnf = λ c r a b. with_clauses c (each_below a (λ i. each_below b (λ j. cell_rests count x y p q r i j))) in
    eh ∙ ap (λ (c : Cnf). cells c remainder (g.left + 1) (g.right + 1)) ek
    ∙ ap (λ (r : List Lit). cells (with_division f n step).formula r (g.left + 1) (g.right + 1)) em
    ∙ ap (λ (d : Divided). cells d.formula d.remainder (g.left + 1) (g.right + 1)) (division_as x y g count p q row step rx ry n f ex ey es er en)
    ∙ ap (λ (a : ℕ). let d = with_division f ((owns_at g count).left p) (joint_step (run_rests count x.links x.chain p ++ run_rests count y.links y.chain q)) in cells d.formula d.remainder a (g.right + 1)) rows
    ∙ ap (λ (b : ℕ). let d = with_division f ((owns_at g count).left p) (joint_step (run_rests count x.links x.chain p ++ run_rests count y.links y.chain q)) in cells d.formula d.remainder (suc (length x.links)) b) columns

-- whether two runs get hints
abbrev get_hints : SelectorParts → SelectorParts → Owns → ℕ → ℕ → Bool
get_hints x y owns p q =
    starts_run x.links p && (starts_run y.links q && (nat_le 1 (length (run_rests owns.count x.links x.chain p)) && (nat_le 1 (length (run_rests owns.count y.links y.chain q))
    && nat_le (joint_step (run_rests owns.count x.links x.chain p ++ run_rests owns.count y.links y.chain q)) most_joint)))

shared_by : (x y : SelectorParts) (owns : Owns) (p q : ℕ) (f : Cnf) (b : Bool) → get_hints x y owns p q ≡ b → with_shared x y owns p q f ≡ when b (with_cells x y owns p q) f
shared_by x y owns p q f b e = ap (λ b. when b (with_cells x y owns p q) f) e

pub left_out : (x y : SelectorParts) (owns : Owns) (p q : ℕ) (f : Cnf) → starts_run x.links p ≡ false → f ≡ with_shared x y owns p q f
left_out x y owns p q f e = sym (shared_by x y owns p q f false (and_left (starts_run x.links p) _ e))

pub right_out : (x y : SelectorParts) (owns : Owns) (p q : ℕ) (f : Cnf) → starts_run y.links q ≡ false → f ≡ with_shared x y owns p q f
right_out x y owns p q f e = sym (shared_by x y owns p q f false (and_right (starts_run x.links p) _ (and_left (starts_run y.links q) _ e)))

-- whether something is asked of both, by what is at hand
asked_as : (rx ry rs ss : List Remainder) (b : Bool) → rx ≡ rs → ry ≡ ss → (nat_le 1 (length rx) && nat_le 1 (length ry)) ≡ b → (nat_le 1 (length rs) && nat_le 1 (length ss)) ≡ b
asked_as rx ry rs ss b ex ey e =
    sym (ap (λ (zs : List Remainder). nat_le 1 (length zs) && nat_le 1 (length ry)) ex ∙ ap (λ (zs : List Remainder). nat_le 1 (length rs) && nat_le 1 (length zs)) ey) ∙ e

step_as : (rx ry rs ss : List Remainder) (step : ℕ) → rx ≡ rs → ry ≡ ss → step ≡ joint_step (rx ++ ry) → step ≡ joint_step (rs ++ ss)
step_as rx ry rs ss step ex ey e = e ∙ ap (λ (zs : List Remainder). joint_step (zs ++ ry)) ex ∙ ap (λ (zs : List Remainder). joint_step (rs ++ zs)) ey

pub unasked_out : (x y : SelectorParts) (owns : Owns) (p q : ℕ) (rx ry : List Remainder) (f : Cnf) → rx ≡ run_rests owns.count x.links x.chain p → ry ≡ run_rests owns.count y.links y.chain q →
    (nat_le 1 (length rx) && nat_le 1 (length ry)) ≡ false → f ≡ with_shared x y owns p q f
unasked_out x y owns p q rx ry f ex ey e =
    let rs : List Remainder = run_rests owns.count x.links x.chain p in
    let ss : List Remainder = run_rests owns.count y.links y.chain q in
    let few : Bool = nat_le (joint_step (rs ++ ss)) most_joint in
    let none : (nat_le 1 (length rs) && (nat_le 1 (length ss) && few)) ≡ false = elim (and_cases (nat_le 1 (length rs)) (nat_le 1 (length ss)) (asked_as rx ry rs ss false ex ey e)) [
      | inl left ↦ and_left (nat_le 1 (length rs)) (nat_le 1 (length ss) && few) left
      | inr right ↦ and_right (nat_le 1 (length rs)) (nat_le 1 (length ss) && few) (and_left (nat_le 1 (length ss)) few right)
    ] in
    sym (shared_by x y owns p q f false (and_right (starts_run x.links p) _ (and_right (starts_run y.links q) _ none)))

pub far_out : (x y : SelectorParts) (owns : Owns) (p q step : ℕ) (rx ry : List Remainder) (f : Cnf) → rx ≡ run_rests owns.count x.links x.chain p → ry ≡ run_rests owns.count y.links y.chain q →
    step ≡ joint_step (rx ++ ry) → most_joint < step → f ≡ with_shared x y owns p q f
far_out x y owns p q step rx ry f ex ey es far =
    let rs : List Remainder = run_rests owns.count x.links x.chain p in
    let ss : List Remainder = run_rests owns.count y.links y.chain q in
    let is = step_as rx ry rs ss step ex ey es in
    let none : nat_le (joint_step (rs ++ ss)) most_joint ≡ false = lt-leb (joint_step (rs ++ ss)) most_joint (omega arith) in
    sym (shared_by x y owns p q f false (and_right (starts_run x.links p) _ (and_right (starts_run y.links q) _ (and_right (nat_le 1 (length rs)) _ (and_right (nat_le 1 (length ss)) _ none)))))

-- two runs of which something is asked
pub shared_is : (x y : SelectorParts) (owns : Owns) (p q step : ℕ) (rx ry : List Remainder) (f : Cnf) → starts_run x.links p ≡ true → starts_run y.links q ≡ true →
    rx ≡ run_rests owns.count x.links x.chain p → ry ≡ run_rests owns.count y.links y.chain q → (nat_le 1 (length rx) && nat_le 1 (length ry)) ≡ true → step ≡ joint_step (rx ++ ry) → step ≤ most_joint →
    with_shared x y owns p q f ≡ with_cells x y owns p q f
shared_is x y owns p q step rx ry f bx by ex ey asked es small =
    let rs : List Remainder = run_rests owns.count x.links x.chain p in
    let ss : List Remainder = run_rests owns.count y.links y.chain q in
    let is = step_as rx ry rs ss step ex ey es in
    let both = and_parts (nat_le 1 (length rs)) (nat_le 1 (length ss)) (asked_as rx ry rs ss true ex ey asked) in
    let few : nat_le (joint_step (rs ++ ss)) most_joint ≡ true = le-leb (joint_step (rs ++ ss)) most_joint (omega arith) in
    shared_by x y owns p q f true (and_from (starts_run x.links p) _ bx (and_from (starts_run y.links q) _ by (and_from (nat_le 1 (length rs)) _ both.0 (and_from (nat_le 1 (length ss)) _ both.1 few))))

-- they take no variable away
pub shared_grows : (x y : SelectorParts) (owns : Owns) (p q : ℕ) → Grows (with_shared x y owns p q)
shared_grows x y owns p q =
    when_grows (get_hints x y owns p q) (with_cells x y owns p q) (λ f. division-grows f (owns.left p) (joint_step (run_rests owns.count x.links x.chain p ++ run_rests owns.count y.links y.chain q)))

pub pair_rows_grow : (x y : SelectorParts) (owns : Owns) (columns p : ℕ) → Grows (steps_below columns (with_shared x y owns p))
pair_rows_grow x y owns columns p = steps_grow columns (with_shared x y owns p) (shared_grows x y owns p)
