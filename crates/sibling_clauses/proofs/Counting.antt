-- What the parts of the numbers add.
use Rattle.std.proofs.Common.{List, [], ap, arith, drop, false, get_or, length, refl, suc, sym, true, ℕ, ◌*◌, ◌++◌, ◌+◌, ◌<◌, ◌∙◌, ◌∷◌, ◌≡◌, ◌≤◌}
use Rattle.std.proofs.Math.Path.{fun_ext}
use Rattle.std.proofs.lemmas.List.{at_drop_more}
use Rattle.sibling_clauses.proofs.Adding.{added_twice}
use Rattle.sibling_clauses.proofs.Implied.{implied_both}
use Rattle.sibling_clauses.proofs.Growing.{Grows, less_grows, run_grows, steps_first, steps_grow, when_grows}
use Rattle.sibling_clauses.specs.Rows.{after_at, before_at, number_at}
use Rattle.sibling_clauses.specs.declared.numbering.Numbering.{Numbering}
use Rattle.cnf.specs.Cnf.{Cnf}
use Rattle.cnf.specs.Gates.{with_clauses}
use Rattle.cnf.specs.Lits.{negation}
use Rattle.cnf.specs.declared.lit.Lit.{Lit}
use Rattle.css_model.specs.declared.selector.Combinator.{Combinator}
use Rattle.formula_laws.specs.Counts.{Names, implied, left_follows, right_follows, steps_below, when, with_counts, with_equal, with_link, with_order_left, with_order_right, with_run}
use Rattle.css_model.specs.Documents.SelectorParts.{SelectorParts}
use Rattle.formula_laws.specs.Formula.{names_of, with_numbers}
use Rattle.grid_laws.specs.Solved.{numbers_asked}
use Rattle.formula_laws.specs.Path.{both_fit, node_lit}
use Rattle.formula_laws.specs.Relations.{same_digits, with_less}
use Rattle.grid_laws.specs.Grid.{left_alone, right_alone, together}

-- the first numbers of a chain
pub before_first : (g : Numbering) (first : ℕ) → before_at g first 0 ≡ number_at g first
before_first g first = ap (number_at g) (omega arith)

pub before_second : (g : Numbering) (first : ℕ) → before_at g first 1 ≡ number_at g (first + 2)
before_second g first = ap (number_at g) (omega arith)

pub after_first : (g : Numbering) (first : ℕ) → after_at g first 0 ≡ number_at g (first + 1)
after_first g first = ap (number_at g) (omega arith)

pub after_second : (g : Numbering) (first : ℕ) → after_at g first 1 ≡ number_at g (first + 3)
after_second g first = ap (number_at g) (omega arith)

pub ruleset rows_at = (before_first, before_second, after_first, after_second)

-- the numbers behind the first compound
before_next : (g : Numbering) (first : ℕ) → (λ i. before_at g first (suc i)) ≡ before_at g (first + 2)
before_next g first = fun_ext (λ i. ap (number_at g) (let e : first + 2 * suc i ≡ first + 2 + 2 * i = omega arith in e))

after_next : (g : Numbering) (first : ℕ) → (λ i. after_at g first (suc i)) ≡ after_at g (first + 2)
after_next g first = fun_ext (λ i. ap (number_at g) (let e : first + 2 * suc i + 1 ≡ first + 2 + 2 * i + 1 = omega arith in e))

pub run_shifted : (g : Numbering) (first : ℕ) (link : Combinator) (links : List Combinator) (one : Lit) (f : Cnf) →
    with_run (link ∷ links) (before_at g first) (after_at g first) one f
    ≡ with_run links (before_at g (first + 2)) (after_at g (first + 2)) one (with_link link (before_at g first 0) (before_at g first 1) (after_at g first 0) (after_at g first 1) one f)
run_shifted g first link links one f =
    let f' = with_link link (before_at g first 0) (before_at g first 1) (after_at g first 0) (after_at g first 1) one f in
    ap (λ b. with_run links b (λ i. after_at g first (suc i)) one f') (before_next g first)
    ∙ ap (λ a. with_run links (before_at g (first + 2)) a one f') (after_next g first)

-- the numbers of the left chain
pub left_rows : (g : Numbering) (links : List Combinator) (one : Lit) (f : Cnf) → with_run links (before_at g 0) (after_at g 0) one f ≡ with_run links (names_of g.left g.right g.digits).bx (names_of g.left g.right g.digits).ax one f
left_rows g links one f =
    ap (λ b. with_run links b (after_at g 0) one f) (fun_ext (λ i. ap (number_at g) (let e : 0 + 2 * i ≡ 2 * i = omega arith in e)))
    ∙ ap (λ a. with_run links (names_of g.left g.right g.digits).bx a one f) (fun_ext (λ i. ap (number_at g) (let e : 0 + 2 * i + 1 ≡ 2 * i + 1 = omega arith in e)))

-- and those of the right one
pub right_rows : (g : Numbering) (first : ℕ) (links : List Combinator) (one : Lit) (f : Cnf) → first ≡ 2 * (g.left + 1) →
    with_run links (before_at g first) (after_at g first) one f ≡ with_run links (names_of g.left g.right g.digits).by (names_of g.left g.right g.digits).ay one f
right_rows g first links one f e =
    ap (λ b. with_run links b (after_at g first) one f) (fun_ext (λ i. ap (number_at g) (let e' : first + 2 * i ≡ 2 * suc g.left + 2 * i = omega arith in e')))
    ∙ ap (λ a. with_run links (names_of g.left g.right g.digits).by a one f) (fun_ext (λ i. ap (number_at g) (let e' : first + 2 * i + 1 ≡ 2 * suc g.left + 2 * i + 1 = omega arith in e')))

-- one step more
pub steps_more : (k : ℕ) (step : ℕ → Cnf → Cnf) (f : Cnf) → steps_below (k + 1) step f ≡ step k (steps_below k step f)
steps_more k step f = ap (λ (n : ℕ). steps_below n step f) (let e : k + 1 ≡ suc k = omega arith in e)

pub steps_none : (step : ℕ → Cnf → Cnf) (f : Cnf) → steps_below 0 step f ≡ f
steps_none step f = refl

pub equal_added : (xl yl : List Combinator) (names : Names) (i j : ℕ) (f g h : Cnf) (l : Lit) → both_fit xl yl i j ≡ true → l ≡ node_lit (suc (length yl)) together i j →
    g ≡ with_clauses f (implied l (same_digits (names.bx i) (names.by j))) → h ≡ with_clauses g (implied l (same_digits (names.ax i) (names.ay j))) → h ≡ with_equal xl yl names i j f
equal_added xl yl names i j f g h l fits el eg eh =
    eh ∙ ap (λ k. with_clauses k (implied l (same_digits (names.ax i) (names.ay j)))) eg
    ∙ added_twice f (implied l (same_digits (names.bx i) (names.by j))) (implied l (same_digits (names.ax i) (names.ay j)))
    ∙ ap (with_clauses f) (sym (implied_both l (same_digits (names.bx i) (names.by j)) (same_digits (names.ax i) (names.ay j))))
    ∙ ap (λ k. with_clauses f (implied k (same_digits (names.bx i) (names.by j) ++ same_digits (names.ax i) (names.ay j)))) el
    ∙ sym (ap (λ b. when b (λ f. with_clauses f (implied (node_lit (suc (length yl)) together i j) (same_digits (names.bx i) (names.by j) ++ same_digits (names.ax i) (names.ay j)))) f) fits)

pub equal_left_out : (xl yl : List Combinator) (names : Names) (i j : ℕ) (f : Cnf) → both_fit xl yl i j ≡ false → f ≡ with_equal xl yl names i j f
equal_left_out xl yl names i j f none = sym (ap (λ b. when b (λ f. with_clauses f (implied (node_lit (suc (length yl)) together i j) (same_digits (names.bx i) (names.by j) ++ same_digits (names.ax i) (names.ay j)))) f) none)

pub ruleset equals_added = (equal_added, equal_left_out)

pub left_order_added : (xl yl : List Combinator) (names : Names) (i j : ℕ) (f g : Cnf) → left_follows xl yl i j ≡ true → g ≡ with_less (negation (node_lit (suc (length yl)) right_alone i j) ∷ negation (node_lit (suc (length yl)) left_alone (i + 1) j) ∷ []) (names.bx (i + 1)) (names.by j) f → g ≡ with_order_left xl yl names i j f
left_order_added xl yl names i j f g asked e =
    e ∙ ap (λ (k : ℕ). with_less (negation (node_lit (suc (length yl)) right_alone i j) ∷ negation (node_lit (suc (length yl)) left_alone (k) j) ∷ []) (names.bx (k)) (names.by j) f) (let q : i + 1 ≡ suc i = omega arith in q)
    ∙ sym (ap (λ b. when b (with_less (negation (node_lit (suc (length yl)) right_alone i j) ∷ negation (node_lit (suc (length yl)) left_alone (suc i) j) ∷ []) (names.bx (suc i)) (names.by j)) f) asked)

pub left_order_out : (xl yl : List Combinator) (names : Names) (i j : ℕ) (f : Cnf) → left_follows xl yl i j ≡ false → f ≡ with_order_left xl yl names i j f
left_order_out xl yl names i j f none = sym (ap (λ b. when b (with_less (negation (node_lit (suc (length yl)) right_alone i j) ∷ negation (node_lit (suc (length yl)) left_alone (suc i) j) ∷ []) (names.bx (suc i)) (names.by j)) f) none)

pub left_order_room : (xl yl : List Combinator) (names : Names) (i j most : ℕ) (unless x y : List Lit) (f : Cnf) → left_follows xl yl i j ≡ true → x ≡ names.bx (i + 1) → y ≡ names.by j → (with_order_left xl yl names i j f).vars ≤ most → (with_less unless x y f).vars ≤ most
left_order_room xl yl names i j most unless x y f asked ex ey room =
    let whole = ap (λ h. h.vars) (sym (left_order_added xl yl names i j f _ asked refl)) in
    rw (ex, ey) (let z : (with_less unless (names.bx (i + 1)) (names.by j) f).vars ≤ most = omega arith in z)

pub right_order_added : (xl yl : List Combinator) (names : Names) (i j : ℕ) (f g : Cnf) → right_follows xl yl i j ≡ true → g ≡ with_less (negation (node_lit (suc (length yl)) left_alone i j) ∷ negation (node_lit (suc (length yl)) right_alone i (j + 1)) ∷ []) (names.by (j + 1)) (names.bx i) f → g ≡ with_order_right xl yl names i j f
right_order_added xl yl names i j f g asked e =
    e ∙ ap (λ (k : ℕ). with_less (negation (node_lit (suc (length yl)) left_alone i j) ∷ negation (node_lit (suc (length yl)) right_alone i (k)) ∷ []) (names.by (k)) (names.bx i) f) (let q : j + 1 ≡ suc j = omega arith in q)
    ∙ sym (ap (λ b. when b (with_less (negation (node_lit (suc (length yl)) left_alone i j) ∷ negation (node_lit (suc (length yl)) right_alone i (suc j)) ∷ []) (names.by (suc j)) (names.bx i)) f) asked)

pub right_order_out : (xl yl : List Combinator) (names : Names) (i j : ℕ) (f : Cnf) → right_follows xl yl i j ≡ false → f ≡ with_order_right xl yl names i j f
right_order_out xl yl names i j f none = sym (ap (λ b. when b (with_less (negation (node_lit (suc (length yl)) left_alone i j) ∷ negation (node_lit (suc (length yl)) right_alone i (suc j)) ∷ []) (names.by (suc j)) (names.bx i)) f) none)

pub right_order_room : (xl yl : List Combinator) (names : Names) (i j most : ℕ) (unless x y : List Lit) (f : Cnf) → right_follows xl yl i j ≡ true → x ≡ names.by (j + 1) → y ≡ names.bx i → (with_order_right xl yl names i j f).vars ≤ most → (with_less unless x y f).vars ≤ most
right_order_room xl yl names i j most unless x y f asked ex ey room =
    let whole = ap (λ h. h.vars) (sym (right_order_added xl yl names i j f _ asked refl)) in
    rw (ex, ey) (let z : (with_less unless (names.by (j + 1)) (names.bx i) f).vars ≤ most = omega arith in z)

-- an order grows a formula
order_left_grows : (xl yl : List Combinator) (names : Names) (i j : ℕ) → Grows (with_order_left xl yl names i j)
order_left_grows xl yl names i j = when_grows (left_follows xl yl i j) (with_less (negation (node_lit (suc (length yl)) right_alone i j) ∷ negation (node_lit (suc (length yl)) left_alone (suc i) j) ∷ []) (names.bx (suc i)) (names.by j)) (λ f. less_grows (negation (node_lit (suc (length yl)) right_alone i j) ∷ negation (node_lit (suc (length yl)) left_alone (suc i) j) ∷ []) (names.bx (suc i)) (names.by j) f)

order_right_grows : (xl yl : List Combinator) (names : Names) (i j : ℕ) → Grows (with_order_right xl yl names i j)
order_right_grows xl yl names i j = when_grows (right_follows xl yl i j) (with_less (negation (node_lit (suc (length yl)) left_alone i j) ∷ negation (node_lit (suc (length yl)) right_alone i (suc j)) ∷ []) (names.by (suc j)) (names.bx i)) (λ f. less_grows (negation (node_lit (suc (length yl)) left_alone i j) ∷ negation (node_lit (suc (length yl)) right_alone i (suc j)) ∷ []) (names.by (suc j)) (names.bx i) f)

-- there is room for each of them
pub step_room : (k n most : ℕ) (step : ℕ → Cnf → Cnf) (f g : Cnf) → ((k : ℕ) → Grows (step k)) → k < n → g ≡ steps_below k step f → (steps_below n step f).vars ≤ most → (step k g).vars ≤ most
step_room k n most step f g grows h e room = let a = steps_first (suc k) n step grows h f in rw e (let b : (step k (steps_below k step f)).vars ≤ (steps_below n step f).vars = a in omega arith)

pub left_room : (xl yl : List Combinator) (names : Names) (i k n most : ℕ) (f g : Cnf) → k < n → g ≡ steps_below k (with_order_left xl yl names i) f → (steps_below n (with_order_left xl yl names i) f).vars ≤ most → (with_order_left xl yl names i k g).vars ≤ most
left_room xl yl names i k n most f g = step_room k n most (with_order_left xl yl names i) f g (order_left_grows xl yl names i)

pub left_rows_room : (xl yl : List Combinator) (names : Names) (c k n most : ℕ) (f g : Cnf) → k < n → g ≡ steps_below k (λ i. steps_below c (with_order_left xl yl names i)) f → (steps_below n (λ i. steps_below c (with_order_left xl yl names i)) f).vars ≤ most → (steps_below c (with_order_left xl yl names k) g).vars ≤ most
left_rows_room xl yl names c k n most f g = step_room k n most (λ i. steps_below c (with_order_left xl yl names i)) f g (λ i. steps_grow c (with_order_left xl yl names i) (order_left_grows xl yl names i))

pub right_room : (xl yl : List Combinator) (names : Names) (i k n most : ℕ) (f g : Cnf) → k < n → g ≡ steps_below k (with_order_right xl yl names i) f → (steps_below n (with_order_right xl yl names i) f).vars ≤ most → (with_order_right xl yl names i k g).vars ≤ most
right_room xl yl names i k n most f g = step_room k n most (with_order_right xl yl names i) f g (order_right_grows xl yl names i)

pub right_rows_room : (xl yl : List Combinator) (names : Names) (c k n most : ℕ) (f g : Cnf) → k < n → g ≡ steps_below k (λ i. steps_below c (with_order_right xl yl names i)) f → (steps_below n (λ i. steps_below c (with_order_right xl yl names i)) f).vars ≤ most → (steps_below c (with_order_right xl yl names k) g).vars ≤ most
right_rows_room xl yl names c k n most f g = step_room k n most (λ i. steps_below c (with_order_right xl yl names i)) f g (λ i. steps_grow c (with_order_right xl yl names i) (order_right_grows xl yl names i))

-- a formula that steps made has no fewer variables
pub steps_stay : (k : ℕ) (step : ℕ → Cnf → Cnf) (f g : Cnf) → ((k : ℕ) → Grows (step k)) → g ≡ steps_below k step f → f.vars ≤ g.vars
steps_stay k step f g grows e = rw e (steps_grow k step grows f)

pub left_stays : (xl yl : List Combinator) (names : Names) (i k : ℕ) (f g : Cnf) → g ≡ steps_below k (with_order_left xl yl names i) f → f.vars ≤ g.vars
left_stays xl yl names i k f g = steps_stay k (with_order_left xl yl names i) f g (order_left_grows xl yl names i)

pub left_rows_stay : (xl yl : List Combinator) (names : Names) (c k : ℕ) (f g : Cnf) → g ≡ steps_below k (λ i. steps_below c (with_order_left xl yl names i)) f → f.vars ≤ g.vars
left_rows_stay xl yl names c k f g = steps_stay k (λ i. steps_below c (with_order_left xl yl names i)) f g (λ i. steps_grow c (with_order_left xl yl names i) (order_left_grows xl yl names i))

pub right_stays : (xl yl : List Combinator) (names : Names) (i k : ℕ) (f g : Cnf) → g ≡ steps_below k (with_order_right xl yl names i) f → f.vars ≤ g.vars
right_stays xl yl names i k f g = steps_stay k (with_order_right xl yl names i) f g (order_right_grows xl yl names i)

pub right_rows_stay : (xl yl : List Combinator) (names : Names) (c k : ℕ) (f g : Cnf) → g ≡ steps_below k (λ i. steps_below c (with_order_right xl yl names i)) f → f.vars ≤ g.vars
right_rows_stay xl yl names c k f g = steps_stay k (λ i. steps_below c (with_order_right xl yl names i)) f g (λ i. steps_grow c (with_order_right xl yl names i) (order_right_grows xl yl names i))

pub ruleset left_row_added = (steps_more, left_room, left_stays)

pub ruleset left_rows_added = (steps_more, left_rows_room, left_rows_stay)

pub ruleset right_row_added = (steps_more, right_room, right_stays)

pub ruleset right_rows_added = (steps_more, right_rows_room, right_rows_stay)

pub ruleset left_orders_added = (left_order_added, left_order_out, left_order_room)

pub ruleset right_orders_added = (right_order_added, right_order_out, right_order_room)

-- one combinator more
pub run_step : (g : Numbering) (first k next : ℕ) (links : List Combinator) (d : Combinator) (one : Lit) (f h : Cnf) → k < length links → next ≡ first + 2 * k →
    h ≡ with_link (get_or links k d) (before_at g next 0) (before_at g next 1) (after_at g next 0) (after_at g next 1) one f →
    with_run (drop (k + 1) links) (before_at g (first + 2 * (k + 1))) (after_at g (first + 2 * (k + 1))) one h
    ≡ with_run (drop k links) (before_at g (first + 2 * k)) (after_at g (first + 2 * k)) one f
run_step g first k next links d one f h less en eh =
    ap (λ i. with_run (drop (k + 1) links) (before_at g (first + 2 * (k + 1))) (after_at g (first + 2 * (k + 1))) one i) eh
    ∙ ap (λ (n : ℕ). with_run (drop (k + 1) links) (before_at g n) (after_at g n) one (with_link (get_or links k d) (before_at g next 0) (before_at g next 1) (after_at g next 0) (after_at g next 1) one f))
    (let e : first + 2 * (k + 1) ≡ next + 2 = omega arith in e)
    ∙ sym (run_shifted g next (get_or links k d) (drop (k + 1) links) one f)
    ∙ ap (λ (n : ℕ). with_run (get_or links k d ∷ drop (k + 1) links) (before_at g n) (after_at g n) one f) en
    ∙ sym (at_drop_more (λ ls. with_run ls (before_at g (first + 2 * k)) (after_at g (first + 2 * k)) one f) links k d less)

-- and room for it
pub link_room : (g : Numbering) (first k next most : ℕ) (links : List Combinator) (d : Combinator) (one : Lit) (f h : Cnf) → k < length links → next ≡ first + 2 * k →
    with_run (drop k links) (before_at g (first + 2 * k)) (after_at g (first + 2 * k)) one f ≡ h → h.vars ≤ most →
    (with_link (get_or links k d) (before_at g next 0) (before_at g next 1) (after_at g next 0) (after_at g next 1) one f).vars ≤ most
link_room g first k next most links d one f h less en e room =
    let step = with_link (get_or links k d) (before_at g next 0) (before_at g next 1) (after_at g next 0) (after_at g next 1) one f in
    let all = ap (λ i. i.vars) (run_step g first k next links d one f step less en refl ∙ e) in
    let more = run_grows (drop (k + 1) links) (before_at g (first + 2 * (k + 1))) (after_at g (first + 2 * (k + 1))) one step in
    omega arith

-- the parts of the numbers, in their order
abbrev pub first_run : Numbering → List Combinator → Cnf → Cnf
first_run g xl f = with_run xl (before_at g 0) (after_at g 0) (names_of g.left g.right g.digits).one f

abbrev pub second_run : Numbering → List Combinator → Cnf → Cnf
second_run g yl f = with_run yl (before_at g (2 * (g.left + 1))) (after_at g (2 * (g.left + 1))) (names_of g.left g.right g.digits).one f

abbrev pub all_equal : Numbering → List Combinator → List Combinator → Cnf → Cnf
all_equal g xl yl = steps_below (g.left + 1) (λ i. steps_below (g.right + 1) (with_equal xl yl (names_of g.left g.right g.digits) i))

abbrev pub all_left : Numbering → List Combinator → List Combinator → Cnf → Cnf
all_left g xl yl = steps_below g.left (λ i. steps_below (g.right + 1) (with_order_left xl yl (names_of g.left g.right g.digits) i))

abbrev pub all_right : Numbering → List Combinator → List Combinator → Cnf → Cnf
all_right g xl yl = steps_below (g.left + 1) (λ i. steps_below g.right (with_order_right xl yl (names_of g.left g.right g.digits) i))

pub counts_whole : (g : Numbering) (xl yl : List Combinator) (f : Cnf) → length xl ≡ g.left → length yl ≡ g.right →
    all_right g xl yl (all_left g xl yl (all_equal g xl yl (second_run g yl (first_run g xl f)))) ≡ with_counts xl yl (names_of g.left g.right g.digits) f
counts_whole g xl yl f ex ey =
    let names = names_of g.left g.right g.digits in
    let a = with_run xl names.bx names.ax names.one f in
    let b = with_run yl names.by names.ay names.one a in
    let em : g.left + 1 ≡ suc (length xl) = omega arith in
    let en : g.right + 1 ≡ suc (length yl) = omega arith in
    let ea : first_run g xl f ≡ a = left_rows g xl names.one f in
    let eb : second_run g yl (first_run g xl f) ≡ b = ap (second_run g yl) ea ∙ right_rows g (2 * (g.left + 1)) yl names.one a refl in
    let equal : (m n : ℕ) → Cnf = λ m n. steps_below m (λ i. steps_below n (with_equal xl yl names i)) b in
    let ec : all_equal g xl yl (second_run g yl (first_run g xl f)) ≡ equal (suc (length xl)) (suc (length yl)) =
    ap (all_equal g xl yl) eb ∙ ap (λ (m : ℕ). equal m (g.right + 1)) em ∙ ap (λ (n : ℕ). equal (suc (length xl)) n) en in
    let left : (m n : ℕ) → Cnf = λ m n. steps_below m (λ i. steps_below n (with_order_left xl yl names i)) (equal (suc (length xl)) (suc (length yl))) in
    let ed : all_left g xl yl (all_equal g xl yl (second_run g yl (first_run g xl f))) ≡ left (length xl) (suc (length yl)) =
    ap (all_left g xl yl) ec ∙ ap (λ (m : ℕ). left m (g.right + 1)) (sym ex) ∙ ap (λ (n : ℕ). left (length xl) n) en in
    let right : (m n : ℕ) → Cnf = λ m n. steps_below m (λ i. steps_below n (with_order_right xl yl names i)) (left (length xl) (suc (length yl))) in
    ap (all_right g xl yl) ed ∙ ap (λ (m : ℕ). right m g.right) em ∙ ap (λ (n : ℕ). right (suc (length xl)) n) (sym ey)

equal_grows : (xl yl : List Combinator) (names : Names) (i j : ℕ) → Grows (with_equal xl yl names i j)
equal_grows xl yl names i j = when_grows (both_fit xl yl i j) _ (λ f. let z : f.vars ≤ f.vars = omega arith in z)

-- there is room for each part
pub record CountRooms (g : Numbering) (xl yl : List Combinator) (f : Cnf) (most : ℕ) : Type 0 where
  pub first : (first_run g xl f).vars ≤ most
  pub second : (second_run g yl (first_run g xl f)).vars ≤ most
  pub left : (all_left g xl yl (all_equal g xl yl (second_run g yl (first_run g xl f)))).vars ≤ most
  pub right : (all_right g xl yl (all_left g xl yl (all_equal g xl yl (second_run g yl (first_run g xl f))))).vars ≤ most
  pub first_more : f.vars ≤ (first_run g xl f).vars
  pub second_more : f.vars ≤ (second_run g yl (first_run g xl f)).vars
  pub equal_more : f.vars ≤ (all_equal g xl yl (second_run g yl (first_run g xl f))).vars
  pub left_more : f.vars ≤ (all_left g xl yl (all_equal g xl yl (second_run g yl (first_run g xl f)))).vars

pub count_rooms : (g : Numbering) (xl yl : List Combinator) (f : Cnf) (most : ℕ) → length xl ≡ g.left → length yl ≡ g.right → (with_counts xl yl (names_of g.left g.right g.digits) f).vars ≤ most → CountRooms g xl yl f most
count_rooms g xl yl f most ex ey room =
    let names = names_of g.left g.right g.digits in
    let a = first_run g xl f in
    let b = second_run g yl a in
    let c = all_equal g xl yl b in
    let d = all_left g xl yl c in
    let ha = run_grows xl (before_at g 0) (after_at g 0) names.one f in
    let hb = run_grows yl (before_at g (2 * (g.left + 1))) (after_at g (2 * (g.left + 1))) names.one a in
    let hc = steps_grow (g.left + 1) (λ i. steps_below (g.right + 1) (with_equal xl yl names i)) (λ i. steps_grow (g.right + 1) (with_equal xl yl names i) (equal_grows xl yl names i)) b in
    let hd = steps_grow g.left (λ i. steps_below (g.right + 1) (with_order_left xl yl names i)) (λ i. steps_grow (g.right + 1) (with_order_left xl yl names i) (order_left_grows xl yl names i)) c in
    let he = steps_grow (g.left + 1) (λ i. steps_below g.right (with_order_right xl yl names i)) (λ i. steps_grow g.right (with_order_right xl yl names i) (order_right_grows xl yl names i)) d in
    let whole = ap (λ h. h.vars) (counts_whole g xl yl f ex ey) in
    record {
      first = omega arith;
      second = omega arith;
      left = omega arith;
      right = omega arith;
      first_more = ha;
      second_more = omega arith;
      equal_more = omega arith;
      left_more = omega arith;
    }

-- the numbers take no variable away
pub all_counts_grow : (xl yl : List Combinator) (names : Names) (f : Cnf) → f.vars ≤ (with_counts xl yl names f).vars
all_counts_grow xl yl names f =
    let a = with_run xl names.bx names.ax names.one f in
    let b = with_run yl names.by names.ay names.one a in
    let c = steps_below (suc (length xl)) (λ i. steps_below (suc (length yl)) (with_equal xl yl names i)) b in
    let d = steps_below (length xl) (λ i. steps_below (suc (length yl)) (with_order_left xl yl names i)) c in
    let ha = run_grows xl names.bx names.ax names.one f in
    let hb = run_grows yl names.by names.ay names.one a in
    let hc = steps_grow (suc (length xl)) (λ i. steps_below (suc (length yl)) (with_equal xl yl names i)) (λ i. steps_grow (suc (length yl)) (with_equal xl yl names i) (equal_grows xl yl names i)) b in
    let hd = steps_grow (length xl) (λ i. steps_below (suc (length yl)) (with_order_left xl yl names i)) (λ i. steps_grow (suc (length yl)) (with_order_left xl yl names i) (order_left_grows xl yl names i)) c in
    let he = steps_grow (suc (length xl)) (λ i. steps_below (length yl) (with_order_right xl yl names i)) (λ i. steps_grow (length yl) (with_order_right xl yl names i) (order_right_grows xl yl names i)) d in
    omega arith

pub numbers_grow : (x y : SelectorParts) (names : Names) (f : Cnf) → f.vars ≤ (with_numbers x y names f).vars
numbers_grow x y names f = when_grows (numbers_asked x y) (λ f. with_counts x.links y.links names (with_clauses f ((names.one ∷ []) ∷ []))) (λ f. all_counts_grow x.links y.links names (with_clauses f ((names.one ∷ []) ∷ []))) f
