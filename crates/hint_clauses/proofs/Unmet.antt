-- Hints on tests that must not hold, of whole selectors.
use Rattle.std.proofs.Common.{List, ap, arith, false, length, suc, sym, true, ℕ, ◌+◌, ◌∙◌, ◌≡◌, ◌≤◌}
use Rattle.cnf.specs.Cnf.{Cnf}
use Rattle.cnf.specs.declared.lit.Lit.{Lit}
use Rattle.css_model.specs.Documents.SelectorParts.{SelectorParts}
use Rattle.formula_laws.specs.Asked.{starts_run}
use Rattle.formula_laws.specs.Counts.{Names, steps_below, when}
use Rattle.formula_laws.specs.Formula.{names_of}
use Rattle.formula_laws.specs.Hints.{Owns, owns_of}
use Rattle.formula_laws.specs.Refused.{left_joints, right_joints, with_refused, with_refused_chain, with_refused_compound, with_refused_hints}
use Rattle.formula_laws.specs.declared.count.Count.{Count}
use Rattle.formula_laws.specs.declared.count.Count.TheVariants.{Before, Behind}
use Rattle.formula_laws.specs.declared.joint.Joint.{Joint}
use Rattle.hint_clauses.proofs.Failing.{refused_compound_grows}
use Rattle.hint_clauses.proofs.Whole.{owns_rows}
use Rattle.hint_clauses.specs.Chains.{owns_at, row_at, row_of}
use Rattle.hint_clauses.specs.Refusals.{left_run_step, right_run_step}
use Rattle.sibling_clauses.proofs.ForCallers.{Grows, steps_grow, when_grows}
use Rattle.sibling_clauses.specs.Bounds.{IsWhole}
use Rattle.sibling_clauses.specs.declared.numbering.Numbering.{Numbering}

-- a run takes no variable away
pub left_run_grows : (g : Numbering) (count : Count) (x y : SelectorParts) (p : ℕ) → Grows (left_run_step g count x y p)
left_run_grows g count x y p = when_grows (starts_run x.links p) _ (steps_grow (g.left + 1) (with_refused_compound count x.links x.chain (left_joints count x y p) (row_at g (row_of g count false)) (names_of g.left g.right g.digits).rx p)
    (refused_compound_grows count x.links x.chain (left_joints count x y p) (row_at g (row_of g count false)) (names_of g.left g.right g.digits).rx p))

pub right_run_grows : (g : Numbering) (count : Count) (x y : SelectorParts) (q : ℕ) → Grows (right_run_step g count x y q)
right_run_grows g count x y q = when_grows (starts_run y.links q) _ (steps_grow (g.right + 1) (with_refused_compound count y.links y.chain (right_joints count x y q) (row_at g (row_of g count true)) (names_of g.left g.right g.digits).ry q)
    (refused_compound_grows count y.links y.chain (right_joints count x y q) (row_at g (row_of g count true)) (names_of g.left g.right g.digits).ry q))

pub left_run_out : (g : Numbering) (count : Count) (x y : SelectorParts) (p : ℕ) (f : Cnf) → starts_run x.links p ≡ false → f ≡ left_run_step g count x y p f
left_run_out g count x y p f e =
    sym (ap (λ b. when b (steps_below (g.left + 1) (with_refused_compound count x.links x.chain (left_joints count x y p) (row_at g (row_of g count false)) (names_of g.left g.right g.digits).rx p)) f) e)

pub right_run_out : (g : Numbering) (count : Count) (x y : SelectorParts) (q : ℕ) (f : Cnf) → starts_run y.links q ≡ false → f ≡ right_run_step g count x y q f
right_run_out g count x y q f e =
    sym (ap (λ b. when b (steps_below (g.right + 1) (with_refused_compound count y.links y.chain (right_joints count x y q) (row_at g (row_of g count true)) (names_of g.left g.right g.digits).ry q)) f) e)

-- a run, by what is at hand
pub left_is : (g : Numbering) (count : Count) (x y : SelectorParts) (p row : ℕ) (root : Lit) (joints : List Joint) (f : Cnf) → starts_run x.links p ≡ true → row ≡ row_of g count false →
    root ≡ (names_of g.left g.right g.digits).rx → joints ≡ left_joints count x y p → left_run_step g count x y p f ≡ steps_below (g.left + 1) (with_refused_compound count x.links x.chain joints (row_at g row) root p) f
left_is g count x y p row root joints f begun er eo ej =
    let names = names_of g.left g.right g.digits in
    let made : List Joint → ℕ → Lit → Cnf = λ js r l. steps_below (g.left + 1) (with_refused_compound count x.links x.chain js (row_at g r) l p) f in
    ap (λ b. when b (steps_below (g.left + 1) (with_refused_compound count x.links x.chain (left_joints count x y p) (row_at g (row_of g count false)) names.rx p)) f) begun
    ∙ sym (ap (λ (js : List Joint). made js row root) ej ∙ ap (λ (r : ℕ). made (left_joints count x y p) r root) er ∙ ap (λ (l : Lit). made (left_joints count x y p) (row_of g count false) l) eo)

pub right_is : (g : Numbering) (count : Count) (x y : SelectorParts) (q row : ℕ) (root : Lit) (joints : List Joint) (f : Cnf) → starts_run y.links q ≡ true → row ≡ row_of g count true →
    root ≡ (names_of g.left g.right g.digits).ry → joints ≡ right_joints count x y q → right_run_step g count x y q f ≡ steps_below (g.right + 1) (with_refused_compound count y.links y.chain joints (row_at g row) root q) f
right_is g count x y q row root joints f begun er eo ej =
    let names = names_of g.left g.right g.digits in
    let made : List Joint → ℕ → Lit → Cnf = λ js r l. steps_below (g.right + 1) (with_refused_compound count y.links y.chain js (row_at g r) l q) f in
    ap (λ b. when b (steps_below (g.right + 1) (with_refused_compound count y.links y.chain (right_joints count x y q) (row_at g (row_of g count true)) names.ry q)) f) begun
    ∙ sym (ap (λ (js : List Joint). made js row root) ej ∙ ap (λ (r : ℕ). made (right_joints count x y q) r root) er ∙ ap (λ (l : Lit). made (right_joints count x y q) (row_of g count true) l) eo)

-- one kind of numbers
abbrev pub left_refused : Numbering → Count → SelectorParts → SelectorParts → Cnf → Cnf
left_refused g count x y = steps_below (g.left + 1) (left_run_step g count x y)

abbrev pub all_refused : Numbering → Count → SelectorParts → SelectorParts → Cnf → Cnf
all_refused g count x y f = steps_below (g.right + 1) (right_run_step g count x y) (left_refused g count x y f)

pub refused_whole : (x y : SelectorParts) (g : Numbering) (count : Count) (f : Cnf) → IsWhole x g.left → IsWhole y g.right →
    all_refused g count x y f ≡ with_refused x y (owns_at g count) (names_of g.left g.right g.digits).rx (names_of g.left g.right g.digits).ry f
refused_whole x y g count f hx hy =
    let lx = hx.links in
    let ly = hy.links in
    let em : g.left + 1 ≡ suc (length x.links) = omega arith in
    let en : g.right + 1 ≡ suc (length y.links) = omega arith in
    let names = names_of g.left g.right g.digits in
    let left : ℕ → Cnf = λ m. steps_below m (λ p. when (starts_run x.links p) (steps_below m (with_refused_compound count x.links x.chain (left_joints count x y p) (row_at g (row_of g count false)) names.rx p))) f in
    let right : ℕ → Cnf = λ n. steps_below n (λ q. when (starts_run y.links q) (steps_below n (with_refused_compound count y.links y.chain (right_joints count x y q) (row_at g (row_of g count true)) names.ry q))) (left (suc (length x.links))) in
    ap (λ (m : ℕ). steps_below (g.right + 1) (right_run_step g count x y) (left m)) em ∙ ap (λ (n : ℕ). right n) en

pub record RefusedRooms (x y : SelectorParts) (g : Numbering) (kind : Count) (f : Cnf) (most : ℕ) : Type 0 where
  pub left : (left_refused g kind x y f).vars ≤ most
  pub right : (all_refused g kind x y f).vars ≤ most
  pub left_more : f.vars ≤ (left_refused g kind x y f).vars

all_grow : (g : Numbering) (count : Count) (x y : SelectorParts) → Grows (all_refused g count x y)
all_grow g count x y f =
    let a = steps_grow (g.left + 1) (left_run_step g count x y) (left_run_grows g count x y) f in
    let b = steps_grow (g.right + 1) (right_run_step g count x y) (right_run_grows g count x y) (left_refused g count x y f) in
    omega arith

pub refused_rooms : (x y : SelectorParts) (g : Numbering) (count : Count) (f : Cnf) (most : ℕ) → IsWhole x g.left → IsWhole y g.right →
    (with_refused x y (owns_at g count) (names_of g.left g.right g.digits).rx (names_of g.left g.right g.digits).ry f).vars ≤ most → RefusedRooms x y g count f most
refused_rooms x y g count f most hx hy room =
    let a = steps_grow (g.left + 1) (left_run_step g count x y) (left_run_grows g count x y) f in
    let b = steps_grow (g.right + 1) (right_run_step g count x y) (right_run_grows g count x y) (left_refused g count x y f) in
    let whole = ap (λ h. h.vars) (refused_whole x y g count f hx hy) in
    record { left = omega arith; right = omega arith; left_more = a }

-- any selectors take no variable away
chain_grows : (x : SelectorParts) (count : Count) (joints : ℕ → List Joint) (own : ℕ → List Lit) (root : Lit) → Grows (with_refused_chain count x.links x.chain joints own root)
chain_grows x count joints own root = steps_grow (suc (length x.links)) (λ p. when (starts_run x.links p) (steps_below (suc (length x.links)) (with_refused_compound count x.links x.chain (joints p) own root p)))
    (λ p. when_grows (starts_run x.links p) (steps_below (suc (length x.links)) (with_refused_compound count x.links x.chain (joints p) own root p)) (steps_grow (suc (length x.links)) (with_refused_compound count x.links x.chain (joints p) own root p)
    (refused_compound_grows count x.links x.chain (joints p) own root p)))

refused_grows : (x y : SelectorParts) (owns : Owns) (rx ry : Lit) → Grows (with_refused x y owns rx ry)
refused_grows x y owns rx ry f =
    let a = chain_grows x owns.count (left_joints owns.count x y) owns.left rx f in
    let b = chain_grows y owns.count (right_joints owns.count x y) owns.right ry (with_refused_chain owns.count x.links x.chain (left_joints owns.count x y) owns.left rx f) in
    omega arith

pub refused_hints_grow : (x y : SelectorParts) (names : Names) → Grows (with_refused_hints x y names)
refused_hints_grow x y names f =
    let a = refused_grows x y (owns_of names Before) names.rx names.ry f in
    let b = refused_grows x y (owns_of names Behind) names.rx names.ry (with_refused x y (owns_of names Before) names.rx names.ry f) in
    omega arith

-- both kinds, as rows
abbrev pub refused_by : Numbering → Count → SelectorParts → SelectorParts → Cnf → Cnf
refused_by g count x y = with_refused x y (owns_at g count) (names_of g.left g.right g.digits).rx (names_of g.left g.right g.digits).ry

pub both_refused : (x y : SelectorParts) (g : Numbering) (f : Cnf) → refused_by g Behind x y (refused_by g Before x y f) ≡ with_refused_hints x y (names_of g.left g.right g.digits) f
both_refused x y g f =
    let names = names_of g.left g.right g.digits in
    let all : Owns → Owns → Cnf = λ before behind. with_refused x y behind names.rx names.ry (with_refused x y before names.rx names.ry f) in
    ap (λ before. all before (owns_at g Behind)) (owns_rows g Before) ∙ ap (λ behind. all (owns_of names Before) behind) (owns_rows g Behind)

pub record BothRooms (x y : SelectorParts) (g : Numbering) (f : Cnf) (most : ℕ) : Type 0 where
  pub befores : (refused_by g Before x y f).vars ≤ most
  pub behinds : (refused_by g Behind x y (refused_by g Before x y f)).vars ≤ most
  pub befores_more : f.vars ≤ (refused_by g Before x y f).vars

pub both_rooms : (x y : SelectorParts) (g : Numbering) (f : Cnf) (most : ℕ) → (with_refused_hints x y (names_of g.left g.right g.digits) f).vars ≤ most → BothRooms x y g f most
both_rooms x y g f most room =
    let a = refused_grows x y (owns_at g Before) (names_of g.left g.right g.digits).rx (names_of g.left g.right g.digits).ry f in
    let b = refused_grows x y (owns_at g Behind) (names_of g.left g.right g.digits).rx (names_of g.left g.right g.digits).ry (refused_by g Before x y f) in
    let whole = ap (λ h. h.vars) (both_refused x y g f) in
    record { befores = omega arith; behinds = omega arith; befores_more = a }
