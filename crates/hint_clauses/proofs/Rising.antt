-- Numbers that rise along a chain.
use Rattle.std.proofs.Common.{IsTrue, List, [], ap, arith, false, length, refl, suc, sym, true, ℕ, ◌*◌, ◌+◌, ◌<◌, ◌∙◌, ◌≡◌, ◌≤◌}
use Rattle.cnf.specs.Cnf.{Cnf}
use Rattle.cnf.specs.Lits.{are_below}
use Rattle.cnf.specs.declared.lit.Lit.{Lit}
use Rattle.css_model.specs.declared.selector.Combinator.{Combinator}
use Rattle.formula_laws.specs.Counts.{steps_below, when}
use Rattle.formula_laws.specs.Hints.{is_later_at, with_rise, with_rises}
use Rattle.formula_laws.specs.Relations.{with_less}
use Rattle.hint_clauses.specs.Chains.{row_at}
use Rattle.sibling_clauses.proofs.ForCallers.{Grows, less_grows, step_room, steps_grow, steps_more, steps_stay, when_grows}
use Rattle.sibling_clauses.specs.Rows.{number_at}
use Rattle.sibling_clauses.specs.declared.numbering.Numbering.{Numbering}

rise_grows : (links : List Combinator) (a : ℕ → List Lit) (k : ℕ) → Grows (with_rise links a k)
rise_grows links a k = when_grows (is_later_at links k) (with_less [] (a k) (a (suc k))) (λ f. less_grows [] (a k) (a (suc k)) f)

pub rises_grow : (links : List Combinator) (a : ℕ → List Lit) → Grows (with_rises links a)
rises_grow links a = steps_grow (length links) (with_rise links a) (rise_grows links a)

-- one of them, with two numbers of a row
pub rise_here : (g : Numbering) (links : List Combinator) (row k here : ℕ) (x y : List Lit) (f h : Cnf) → is_later_at links k ≡ true → here ≡ row + 2 * k → x ≡ number_at g here → y ≡ number_at g (here + 2) → h ≡ with_less [] x y f →
    h ≡ with_rise links (row_at g row) k f
rise_here g links row k here x y f h later at ex ey e =
    e ∙ ap (λ l. with_less [] l y f) (ex ∙ ap (number_at g) at) ∙ ap (λ l. with_less [] (row_at g row k) l f) (ey ∙ ap (number_at g) (let q : here + 2 ≡ row + 2 * suc k = omega arith in q))
    ∙ sym (ap (λ b. when b (with_less [] (row_at g row k) (row_at g row (suc k))) f) later)

pub rise_out : (links : List Combinator) (a : ℕ → List Lit) (k : ℕ) (f : Cnf) → is_later_at links k ≡ false → f ≡ with_rise links a k f
rise_out links a k f none = sym (ap (λ b. when b (with_less [] (a k) (a (suc k))) f) none)

pub rise_room : (g : Numbering) (links : List Combinator) (row k here most : ℕ) (x y : List Lit) (f : Cnf) → is_later_at links k ≡ true → here ≡ row + 2 * k → x ≡ number_at g here → y ≡ number_at g (here + 2) →
    (with_rise links (row_at g row) k f).vars ≤ most → (with_less [] x y f).vars ≤ most
rise_room g links row k here most x y f later at ex ey room =
    let whole = ap (λ h. h.vars) (rise_here g links row k here x y f _ later at ex ey refl) in
    omega arith

pub no_literals : (n : ℕ) → IsTrue (are_below n [])
no_literals n = refl

pub ruleset rise_added = (rise_here, rise_out, rise_room, no_literals)

-- all of them, one after the other
pub rises_room : (links : List Combinator) (a : ℕ → List Lit) (k n most : ℕ) (f g : Cnf) → k < n → g ≡ steps_below k (with_rise links a) f → (steps_below n (with_rise links a) f).vars ≤ most → (with_rise links a k g).vars ≤ most
rises_room links a k n most f g = step_room k n most (with_rise links a) f g (rise_grows links a)

pub rises_stay : (links : List Combinator) (a : ℕ → List Lit) (k : ℕ) (f g : Cnf) → g ≡ steps_below k (with_rise links a) f → f.vars ≤ g.vars
rises_stay links a k f g = steps_stay k (with_rise links a) f g (rise_grows links a)

pub more_steps : (k : ℕ) (step : ℕ → Cnf → Cnf) (f : Cnf) → steps_below (k + 1) step f ≡ step k (steps_below k step f)
more_steps k step f = steps_more k step f

pub ruleset rises_added = (more_steps, rises_room, rises_stay)
