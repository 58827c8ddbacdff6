-- What is known of runs, as it is gathered.
use Rattle.std.proofs.Common.{Bool, List, Option, [], ap, append-nil, arith, false, length, suc, sym, true, zero, ℕ, ◌&&◌, ◌++◌, ◌+◌, ◌-◌, ◌<◌, ◌∙◌, ◌∷◌, ◌≡◌, ◌≤◌}
use Rattle.std.proofs.lemmas.Bool.{and_from, and_left, and_parts, and_right, le-leb, leb-true, lt-leb}
use Rattle.std.proofs.lemmas.List.{append_assoc}
use Rattle.std.specs.Prelude.{None, Some, if◌then◌else◌, nat_le}
use Rattle.css_model.specs.Documents.SelectorParts.{SelectorParts}
use Rattle.formula_laws.proofs.ForCallers.{node_below}
use Rattle.formula_laws.specs.Asked.{run_rests, starts_run}
use Rattle.formula_laws.specs.Formula.{nodes_end}
use Rattle.formula_laws.specs.Hints.{is_cell, shared_rests}
use Rattle.formula_laws.specs.Path.{each_below, node_lit, only_if}
use Rattle.formula_laws.specs.Refused.{cell_joint, left_cells, left_joints, own_joint, right_cells, right_joints}
use Rattle.formula_laws.specs.declared.count.Count.{Count}
use Rattle.formula_laws.specs.declared.joint.Joint.{Joint}
use Rattle.grid_laws.specs.Grid.{together}
use Rattle.hint_clauses.specs.Cells.{AreRuns}
use Rattle.hint_clauses.specs.Known.{AreNear}
use Rattle.hint_clauses.specs.declared.runs.Runs.{Runs}
use Rattle.remainders.specs.Remainders.{joint_rest, joint_step, most_joint}
use Rattle.remainders.specs.declared.remainder.Remainder.{Remainder}
use Rattle.sibling_clauses.proofs.ForCallers.{each_more}

-- of a run by itself
abbrev own_known : ℕ → Option ℕ → Joint
own_known step rest = record { given = None; step = step; rest = rest; right = 0; left = 0 }

pub own_far : (rs : List Remainder) (step : ℕ) → step ≡ joint_step rs → most_joint < step → [] ≡ own_joint rs
own_far rs step es far = sym (ap (λ b. only_if b (own_known (joint_step rs) (joint_rest rs) ∷ [])) (lt-leb (joint_step rs) most_joint (omega arith)))

pub own_here : (rs : List Remainder) (step : ℕ) (rest : Option ℕ) → step ≡ joint_step rs → step ≤ most_joint → rest ≡ joint_rest rs → record { given = None; step = step; rest = rest; right = 0; left = 0 } ∷ [] ≡ own_joint rs
own_here rs step rest es few er =
    ap (λ (s : ℕ). own_known s rest ∷ []) es ∙ ap (λ (o : Option ℕ). own_known (joint_step rs) o ∷ []) er
    ∙ sym (ap (λ b. only_if b (own_known (joint_step rs) (joint_rest rs) ∷ [])) (le-leb (joint_step rs) most_joint (omega arith)))

pub ruleset own_reads = (own_far, own_here)

-- one after the other
pub gathered_each : (old g h : List Joint) (k : ℕ) (make : ℕ → List Joint) → g ≡ old ++ each_below k make → h ≡ g ++ make k → h ≡ old ++ each_below (k + 1) make
gathered_each old g h k make eg eh =
    eh ∙ ap (λ (js : List Joint). js ++ make k) eg ∙ append_assoc old (each_below k make) (make k) ∙ ap (λ (js : List Joint). old ++ js) (sym (each_more k make))

-- in a cell
abbrev cell_known : ℕ → ℕ → Option ℕ → ℕ → ℕ → ℕ → ℕ → Joint
cell_known n step rest right left i j = record { given = Some (node_lit (suc n) together i j); step = step; rest = rest; right = right; left = left }

pub joint_here : (count : Count) (x y : SelectorParts) (p q right left i j n step : ℕ) (rest : Option ℕ) (rx ry : List Remainder) (found : Joint) (old new : List Joint) → is_cell x y p q i j ≡ true →
    rx ≡ run_rests count x.links x.chain p → ry ≡ run_rests count y.links y.chain q → step ≡ joint_step (rx ++ ry) → rest ≡ joint_rest (shared_rests count rx ry (i - p) (j - q)) → length y.links ≡ n →
    found ≡ cell_known n step rest right left i j → new ≡ old ++ found ∷ [] → new ≡ old ++ cell_joint count x y p q right left i j
joint_here count x y p q right left i j n step rest rx ry found old new cell ex ey es er en ef e =
    let rs : List Remainder = run_rests count x.links x.chain p in
    let ss : List Remainder = run_rests count y.links y.chain q in
    let known : ℕ → ℕ → Option ℕ → List Joint = λ m s o. cell_known m s o right left i j ∷ [] in
    let asked : List Remainder → List Remainder → Option ℕ = λ a b. joint_rest (shared_rests count a b (i - p) (j - q)) in
    e ∙ ap (λ (js : List Joint). old ++ js)
    (ap (λ (t : Joint). t ∷ []) ef
    ∙ ap (λ (m : ℕ). known m step rest) (sym en)
    ∙ ap (λ (s : ℕ). known (length y.links) s rest) (es ∙ ap (λ (a : List Remainder). joint_step (a ++ ry)) ex ∙ ap (λ (b : List Remainder). joint_step (rs ++ b)) ey)
    ∙ ap (λ (o : Option ℕ). known (length y.links) (joint_step (rs ++ ss)) o) (er ∙ ap (λ (a : List Remainder). asked a ry) ex ∙ ap (λ (b : List Remainder). asked rs b) ey)
    ∙ sym (ap (λ b. only_if b (known (length y.links) (joint_step (rs ++ ss)) (asked rs ss))) cell))

pub joint_out : (count : Count) (x y : SelectorParts) (p q right left i j : ℕ) (old : List Joint) → is_cell x y p q i j ≡ false → old ≡ old ++ cell_joint count x y p q right left i j
joint_out count x y p q right left i j old none =
    sym (ap (λ b. old ++ only_if b (cell_known (length y.links) (joint_step (run_rests count x.links x.chain p ++ run_rests count y.links y.chain q))
    (joint_rest (shared_rests count (run_rests count x.links x.chain p) (run_rests count y.links y.chain q) (i - p) (j - q))) right left i j ∷ [])) none ∙ append-nil old)

-- all cells of two runs, by what is at hand
abbrev pub run_cells : Bool → Count → SelectorParts → SelectorParts → ℕ → ℕ → ℕ → ℕ → List Joint
run_cells of_right count x y rows columns p q =
    each_below rows (λ i. each_below columns (λ j. cell_joint count x y p q (if of_right then j - q else 0) (if of_right then i - p else 0) i j))

-- these are runs that begin there
pub record BeginAt (runs : Runs) (kind : Count) (x y : SelectorParts) (p q : ℕ) : Type 0 where
  pub count : runs.count ≡ kind
  pub left : runs.left ≡ p
  pub right : runs.right ≡ q
  pub rows : runs.numbering.left ≡ length x.links
  pub columns : runs.numbering.right ≡ length y.links
  pub asked : AreRuns runs x y

cells_as : (of_right : Bool) (runs : Runs) (count : Count) (x y : SelectorParts) (p q : ℕ) → BeginAt runs count x y p q →
    run_cells of_right runs.count x y (runs.numbering.left + 1) (runs.numbering.right + 1) runs.left runs.right ≡ run_cells of_right count x y (suc (length x.links)) (suc (length y.links)) p q
cells_as of_right runs count x y p q at =
    let r = at.rows in
    let s = at.columns in
    let rows : runs.numbering.left + 1 ≡ suc (length x.links) = omega arith in
    let columns : runs.numbering.right + 1 ≡ suc (length y.links) = omega arith in
    ap (λ (c : Count). run_cells of_right c x y (runs.numbering.left + 1) (runs.numbering.right + 1) runs.left runs.right) at.count
    ∙ ap (λ (a : ℕ). run_cells of_right count x y a (runs.numbering.right + 1) runs.left runs.right) rows
    ∙ ap (λ (b : ℕ). run_cells of_right count x y (suc (length x.links)) b runs.left runs.right) columns
    ∙ ap (λ (k : ℕ). run_cells of_right count x y (suc (length x.links)) (suc (length y.links)) k runs.right) at.left
    ∙ ap (λ (k : ℕ). run_cells of_right count x y (suc (length x.links)) (suc (length y.links)) p k) at.right

left_rests : (runs : Runs) (count : Count) (x y : SelectorParts) (p q : ℕ) → BeginAt runs count x y p q → runs.left_rests.items ≡ run_rests count x.links x.chain p
left_rests runs count x y p q at = at.asked.left ∙ ap (λ (c : Count). run_rests c x.links x.chain runs.left) at.count ∙ ap (λ (k : ℕ). run_rests count x.links x.chain k) at.left

right_rests : (runs : Runs) (count : Count) (x y : SelectorParts) (p q : ℕ) → BeginAt runs count x y p q → runs.right_rests.items ≡ run_rests count y.links y.chain q
right_rests runs count x y p q at = at.asked.right ∙ ap (λ (c : Count). run_rests c y.links y.chain runs.right) at.count ∙ ap (λ (k : ℕ). run_rests count y.links y.chain k) at.right

step_is : (runs : Runs) (count : Count) (x y : SelectorParts) (p q : ℕ) → BeginAt runs count x y p q → runs.step ≡ joint_step (run_rests count x.links x.chain p ++ run_rests count y.links y.chain q)
step_is runs count x y p q at =
    at.asked.step ∙ ap (λ (rs : List Remainder). joint_step (rs ++ runs.right_rests.items)) (left_rests runs count x y p q at)
    ∙ ap (λ (rs : List Remainder). joint_step (run_rests count x.links x.chain p ++ rs)) (right_rests runs count x y p q at)

-- whether something is asked of a run, and the joint step is small
asked_is : (rests known : List Remainder) (step whole : ℕ) → rests ≡ known → step ≡ whole → (nat_le 1 (length rests) && nat_le step most_joint) ≡ (nat_le 1 (length known) && nat_le whole most_joint)
asked_is rests known step whole er es =
    ap (λ (rs : List Remainder). nat_le 1 (length rs) && nat_le step most_joint) er ∙ ap (λ (s : ℕ). nat_le 1 (length known) && nat_le s most_joint) es

left_asked : (runs : Runs) (count : Count) (x y : SelectorParts) (p q : ℕ) (b : Bool) (rests : List Remainder) → BeginAt runs count x y p q → rests ≡ runs.right_rests.items → (nat_le 1 (length rests) && nat_le runs.step most_joint) ≡ b →
    (nat_le 1 (length (run_rests count y.links y.chain q)) && nat_le (joint_step (run_rests count x.links x.chain p ++ run_rests count y.links y.chain q)) most_joint) ≡ b
left_asked runs count x y p q b rests at er e = sym (asked_is rests _ runs.step _ (er ∙ right_rests runs count x y p q at) (step_is runs count x y p q at)) ∙ e

right_asked : (runs : Runs) (count : Count) (x y : SelectorParts) (p q : ℕ) (b : Bool) (rests : List Remainder) → BeginAt runs count x y p q → rests ≡ runs.left_rests.items → (nat_le 1 (length rests) && nat_le runs.step most_joint) ≡ b →
    (nat_le 1 (length (run_rests count x.links x.chain p)) && nat_le (joint_step (run_rests count x.links x.chain p ++ run_rests count y.links y.chain q)) most_joint) ≡ b
right_asked runs count x y p q b rests at er e = sym (asked_is rests _ runs.step _ (er ∙ left_rests runs count x y p q at) (step_is runs count x y p q at)) ∙ e

-- of a left run by a right one
pub left_unbegun : (count : Count) (x y : SelectorParts) (p q : ℕ) (old : List Joint) → starts_run y.links q ≡ false → old ≡ old ++ left_cells count x y p q
left_unbegun count x y p q old none =
    sym (ap (λ b. old ++ only_if b (run_cells false count x y (suc (length x.links)) (suc (length y.links)) p q)) (and_left (starts_run y.links q) _ none) ∙ append-nil old)

pub left_unasked : (runs : Runs) (count : Count) (x y : SelectorParts) (p q : ℕ) (rests : List Remainder) (old : List Joint) → BeginAt runs count x y p q → rests ≡ runs.right_rests.items →
    (nat_le 1 (length rests) && nat_le runs.step most_joint) ≡ false → old ≡ old ++ left_cells count x y p q
left_unasked runs count x y p q rests old at er e =
    sym (ap (λ b. old ++ only_if b (run_cells false count x y (suc (length x.links)) (suc (length y.links)) p q)) (and_right (starts_run y.links q) _ (left_asked runs count x y p q false rests at er e)) ∙ append-nil old)

pub left_here : (runs : Runs) (count : Count) (x y : SelectorParts) (p q : ℕ) (rests : List Remainder) (old new : List Joint) → BeginAt runs count x y p q → starts_run y.links q ≡ true → rests ≡ runs.right_rests.items →
    (nat_le 1 (length rests) && nat_le runs.step most_joint) ≡ true → new ≡ old ++ run_cells false runs.count x y (runs.numbering.left + 1) (runs.numbering.right + 1) runs.left runs.right → new ≡ old ++ left_cells count x y p q
left_here runs count x y p q rests old new at begun er asked e =
    e ∙ ap (λ (js : List Joint). old ++ js) (cells_as false runs count x y p q at)
    ∙ sym (ap (λ b. old ++ only_if b (run_cells false count x y (suc (length x.links)) (suc (length y.links)) p q)) (and_from (starts_run y.links q) _ begun (left_asked runs count x y p q true rests at er asked)))

-- and the other way round
pub right_unbegun : (count : Count) (x y : SelectorParts) (p q : ℕ) (old : List Joint) → starts_run x.links p ≡ false → old ≡ old ++ right_cells count x y q p
right_unbegun count x y p q old none =
    sym (ap (λ b. old ++ only_if b (run_cells true count x y (suc (length x.links)) (suc (length y.links)) p q)) (and_left (starts_run x.links p) _ none) ∙ append-nil old)

pub right_unasked : (runs : Runs) (count : Count) (x y : SelectorParts) (p q : ℕ) (rests : List Remainder) (old : List Joint) → BeginAt runs count x y p q → rests ≡ runs.left_rests.items →
    (nat_le 1 (length rests) && nat_le runs.step most_joint) ≡ false → old ≡ old ++ right_cells count x y q p
right_unasked runs count x y p q rests old at er e =
    sym (ap (λ b. old ++ only_if b (run_cells true count x y (suc (length x.links)) (suc (length y.links)) p q)) (and_right (starts_run x.links p) _ (right_asked runs count x y p q false rests at er e)) ∙ append-nil old)

pub right_here : (runs : Runs) (count : Count) (x y : SelectorParts) (p q : ℕ) (rests : List Remainder) (old new : List Joint) → BeginAt runs count x y p q → starts_run x.links p ≡ true → rests ≡ runs.left_rests.items →
    (nat_le 1 (length rests) && nat_le runs.step most_joint) ≡ true → new ≡ old ++ run_cells true runs.count x y (runs.numbering.left + 1) (runs.numbering.right + 1) runs.left runs.right → new ≡ old ++ right_cells count x y q p
right_here runs count x y p q rests old new at begun er asked e =
    e ∙ ap (λ (js : List Joint). old ++ js) (cells_as true runs count x y p q at)
    ∙ sym (ap (λ b. old ++ only_if b (run_cells true count x y (suc (length x.links)) (suc (length y.links)) p q)) (and_from (starts_run x.links p) _ begun (right_asked runs count x y p q true rests at er asked)))

-- all of them begin near
near_both : (vars : ℕ) (js ks : List Joint) → AreNear vars js → AreNear vars ks → AreNear vars (js ++ ks)
near_both vars [] ks hj hk = hk
near_both vars (j ∷ js) ks hj hk = (hj.0, near_both vars js ks hj.1 hk)

near_each : (vars n : ℕ) (make : ℕ → List Joint) → ((k : ℕ) → k < n → AreNear vars (make k)) → AreNear vars (each_below n make)
near_each vars zero make each = tt
near_each vars (suc n) make each = near_both vars (each_below n make) (make n) (near_each vars n make (λ k less. each k (omega arith))) (each n (omega arith))

near_if : (vars : ℕ) (b : Bool) (js : List Joint) → AreNear vars js → AreNear vars (only_if b js)
near_if vars true js h = h
near_if vars false js h = tt

own_near : (vars : ℕ) (rs : List Remainder) → AreNear vars (own_joint rs)
own_near vars rs = near_if vars (nat_le (joint_step rs) most_joint) (own_known (joint_step rs) (joint_rest rs) ∷ []) (((omega arith, omega arith), tt), tt)

cell_near : (count : Count) (x y : SelectorParts) (p q right left i j : ℕ) → right < 12 → left < 12 → i ≤ length x.links → j ≤ length y.links → AreNear (nodes_end (length x.links) (length y.links)) (cell_joint count x y p q right left i j)
cell_near count x y p q right left i j hr hl hi hj =
    near_if (nodes_end (length x.links) (length y.links)) (is_cell x y p q i j) _ (((hr, hl), node_below (length x.links) (length y.links) together i j (nodes_end (length x.links) (length y.links)) hi hj (omega arith)), tt)

cells_near : (of_right : Bool) (count : Count) (x y : SelectorParts) (p q : ℕ) → length x.links < 12 → length y.links < 12 →
    AreNear (nodes_end (length x.links) (length y.links)) (run_cells of_right count x y (suc (length x.links)) (suc (length y.links)) p q)
cells_near of_right count x y p q hx hy =
    near_each (nodes_end (length x.links) (length y.links)) (suc (length x.links)) _ (λ i hi. near_each (nodes_end (length x.links) (length y.links)) (suc (length y.links)) _ (λ j hj.
    cell_near count x y p q (if of_right then j - q else 0) (if of_right then i - p else 0) i j (near of_right j q (omega arith)) (near of_right i p (omega arith)) (omega arith) (omega arith)))
  where
    near : (b : Bool) (k start : ℕ) → k < 12 → (if b then k - start else 0) < 12
    near true k start less = omega arith
    near false k start less = omega arith

pub left_near : (count : Count) (x y : SelectorParts) (p m n : ℕ) (joints : List Joint) → length x.links ≡ m → length y.links ≡ n → m < 12 → n < 12 → joints ≡ left_joints count x y p → AreNear (nodes_end m n) joints
left_near count x y p m n joints em en hm hn e =
    rw (e, ← em, ← en) (near_both (nodes_end (length x.links) (length y.links)) (own_joint (run_rests count x.links x.chain p)) (each_below (suc (length y.links)) (left_cells count x y p)) (own_near _ (run_rests count x.links x.chain p))
    (near_each (nodes_end (length x.links) (length y.links)) (suc (length y.links)) (left_cells count x y p) (λ q hq. near_if (nodes_end (length x.links) (length y.links)) _ _ (cells_near false count x y p q (omega arith) (omega arith)))))

pub right_near : (count : Count) (x y : SelectorParts) (q m n : ℕ) (joints : List Joint) → length x.links ≡ m → length y.links ≡ n → m < 12 → n < 12 → joints ≡ right_joints count x y q → AreNear (nodes_end m n) joints
right_near count x y q m n joints em en hm hn e =
    rw (e, ← em, ← en) (near_both (nodes_end (length x.links) (length y.links)) (own_joint (run_rests count y.links y.chain q)) (each_below (suc (length x.links)) (right_cells count x y q)) (own_near _ (run_rests count y.links y.chain q))
    (near_each (nodes_end (length x.links) (length y.links)) (suc (length x.links)) (right_cells count x y q) (λ p hp. near_if (nodes_end (length x.links) (length y.links)) _ _ (cells_near true count x y p q (omega arith) (omega arith)))))

-- the joint step is small where that was asked
pub small_of : (rests : List Remainder) (step : ℕ) → (nat_le 1 (length rests) && nat_le step most_joint) ≡ true → step ≤ most_joint
small_of rests step e = leb-true step most_joint (and_parts (nat_le 1 (length rests)) (nat_le step most_joint) e).1
