-- Hints on distances, of whole selectors.
use Rattle.std.proofs.Common.{Bool, List, ap, arith, false, length, suc, sym, true, ℕ, ◌&&◌, ◌+◌, ◌∙◌, ◌≡◌, ◌≤◌}
use Rattle.std.specs.Prelude.{Some, None, if◌then◌else◌, not, ◌==◌}
use Rattle.cnf.specs.Cnf.{Cnf}
use Rattle.cnf.specs.declared.lit.Lit.{Lit}
use Rattle.css_model.specs.Documents.SelectorParts.{SelectorParts}
use Rattle.css_model.specs.declared.selector.Combinator.{Combinator}
use Rattle.formula_laws.specs.Asked.{starts_run}
use Rattle.formula_laws.specs.Counts.{Names, steps_below, when}
use Rattle.formula_laws.specs.Distances.{First, first_of, row_start, with_distance, with_distance_hints, with_distances, with_distances_beside, with_own_distance, with_own_distances, with_row_distance, with_shared_distance}
use Rattle.formula_laws.specs.Formula.{names_of}
use Rattle.formula_laws.specs.Hints.{Owns, owns_of}
use Rattle.formula_laws.specs.Path.{both_fit, node_lit}
use Rattle.formula_laws.specs.declared.count.Count.{Count}
use Rattle.formula_laws.specs.declared.count.Count.TheVariants.{Before, Behind}
use Rattle.grid_laws.specs.Grid.{together}
use Rattle.hint_clauses.proofs.Gapped.{distance_grows}
use Rattle.hint_clauses.proofs.Whole.{owns_rows}
use Rattle.hint_clauses.specs.Chains.{owns_at}
use Rattle.hint_clauses.specs.Counted.{IsCounted, last_of, side_of}
use Rattle.hint_clauses.specs.Fronts.{first_in}
use Rattle.hint_clauses.specs.Gaps.{distances_step, own_step, shared_step}
use Rattle.hint_clauses.specs.declared.counted.Counted.{Counted}
use Rattle.sibling_clauses.proofs.ForCallers.{Grows, steps_grow, when_grows}
use Rattle.sibling_clauses.specs.declared.numbering.Numbering.{Numbering}

-- two runs of one selector
own_grows : (count : Count) (links : List Combinator) (first : ℕ → First) (q p : ℕ) → Grows (with_own_distance count links first q p)
own_grows count links first q p = when_grows (starts_run links p && (starts_run links q && (row_start links p == row_start links q))) (with_distance count None true (first p) (first q)) (distance_grows count None true (first p) (first q))

pub own_step_grows : (pair : Counted) (right : Bool) (q p : ℕ) → Grows (own_step pair right q p)
own_step_grows pair right = own_grows pair.count (side_of pair right).links (first_in pair right)

pub own_row_grows : (pair : Counted) (right : Bool) (q : ℕ) → Grows (steps_below q (own_step pair right q))
own_row_grows pair right q = steps_grow q (own_step pair right q) (own_step_grows pair right q)

pub own_out : (pair : Counted) (right : Bool) (q p : ℕ) (f : Cnf) (b : Bool) → b ≡ (starts_run (side_of pair right).links p && (starts_run (side_of pair right).links q && (row_start (side_of pair right).links p == row_start (side_of pair right).links q))) →
    b ≡ false → f ≡ own_step pair right q p f
own_out pair right q p f b eb e = sym (ap (λ b. when b (with_distance pair.count None true (first_in pair right p) (first_in pair right q)) f) (sym eb ∙ e))

pub own_is : (pair : Counted) (right : Bool) (q p : ℕ) (first second : First) (f : Cnf) (b : Bool) → b ≡ (starts_run (side_of pair right).links p && (starts_run (side_of pair right).links q && (row_start (side_of pair right).links p == row_start (side_of pair right).links q))) →
    b ≡ true → first ≡ first_in pair right p → second ≡ first_in pair right q → with_distance pair.count None true first second f ≡ own_step pair right q p f
own_is pair right q p first second f b eb e ep eq =
    ap (λ (a : First). with_distance pair.count None true a second f) ep ∙ ap (λ (a : First). with_distance pair.count None true (first_in pair right p) a f) eq
    ∙ sym (ap (λ b. when b (with_distance pair.count None true (first_in pair right p) (first_in pair right q)) f) (sym eb ∙ e))

-- two runs of different selectors
abbrev pub row_gap_step : Count → Lit → Bool → Bool → First → First → Cnf → Cnf
row_gap_step count node left_first right_first left right =
    if right_first then with_distance count (Some node) true right left else with_distance count (Some node) left_first left right

row_gap_grows : (count : Count) (node : Lit) (left_first right_first : Bool) (left right : First) → Grows (row_gap_step count node left_first right_first left right)
row_gap_grows count node left_first true left right = distance_grows count (Some node) true right left
row_gap_grows count node left_first false left right = distance_grows count (Some node) left_first left right

row_grows : (count : Count) (x y : SelectorParts) (left right : ℕ → First) (s t p q : ℕ) → Grows (with_row_distance count x y left right s t p q)
row_grows count x y left right s t p q = when_grows (both_fit x.links y.links s t && not ((p == s) && (q == t))) (row_gap_step count (node_lit (suc (length y.links)) together s t) (p == s) (q == t) (left p) (right q))
    (row_gap_grows count (node_lit (suc (length y.links)) together s t) (p == s) (q == t) (left p) (right q))

shared_grows : (count : Count) (x y : SelectorParts) (left right : ℕ → First) (p q : ℕ) → Grows (with_shared_distance count x y left right p q)
shared_grows count x y left right p q = when_grows (starts_run x.links p && starts_run y.links q) (with_row_distance count x y left right (row_start x.links p) (row_start y.links q) p q)
    (row_grows count x y left right (row_start x.links p) (row_start y.links q) p q)

pub shared_step_grows : (pair : Counted) (p q : ℕ) → Grows (shared_step pair p q)
shared_step_grows pair = shared_grows pair.count pair.left.now pair.right.now (first_in pair false) (first_in pair true)

pub shared_row_grows : (pair : Counted) (n p : ℕ) → Grows (steps_below n (shared_step pair p))
shared_row_grows pair n p = steps_grow n (shared_step pair p) (shared_step_grows pair p)

pub shared_unbegun : (pair : Counted) (p q : ℕ) (f : Cnf) → (starts_run pair.left.now.links p && starts_run pair.right.now.links q) ≡ false → f ≡ shared_step pair p q f
shared_unbegun pair p q f e =
    sym (ap (λ b. when b (with_row_distance pair.count pair.left.now pair.right.now (first_in pair false) (first_in pair true) (row_start pair.left.now.links p) (row_start pair.right.now.links q) p q) f) e)

abbrev shared_row : Counted → ℕ → ℕ → ℕ → ℕ → Cnf → Cnf
shared_row pair s t p q = with_row_distance pair.count pair.left.now pair.right.now (first_in pair false) (first_in pair true) s t p q

row_is : (pair : Counted) (s t p q : ℕ) (f : Cnf) → (starts_run pair.left.now.links p && starts_run pair.right.now.links q) ≡ true → s ≡ row_start pair.left.now.links p → t ≡ row_start pair.right.now.links q →
    shared_row pair s t p q f ≡ shared_step pair p q f
row_is pair s t p q f begun es et =
    ap (λ (k : ℕ). shared_row pair k t p q f) es ∙ ap (λ (k : ℕ). shared_row pair (row_start pair.left.now.links p) k p q f) et
    ∙ sym (ap (λ b. when b (shared_row pair (row_start pair.left.now.links p) (row_start pair.right.now.links q) p q) f) begun)

pub shared_out : (pair : Counted) (s t p q : ℕ) (f : Cnf) → (starts_run pair.left.now.links p && starts_run pair.right.now.links q) ≡ true → s ≡ row_start pair.left.now.links p → t ≡ row_start pair.right.now.links q →
    (both_fit pair.left.now.links pair.right.now.links s t && not ((p == s) && (q == t))) ≡ false → f ≡ shared_step pair p q f
shared_out pair s t p q f begun es et e =
    sym (ap (λ b. when b (row_gap_step pair.count (node_lit (suc (length pair.right.now.links)) together s t) (p == s) (q == t) (first_in pair false p) (first_in pair true q)) f) e)
    ∙ row_is pair s t p q f begun es et

pub shared_is : (pair : Counted) (s t p q : ℕ) (node : Lit) (left right : First) (f : Cnf) → IsCounted pair → (starts_run pair.left.now.links p && starts_run pair.right.now.links q) ≡ true → s ≡ row_start pair.left.now.links p →
    t ≡ row_start pair.right.now.links q → (both_fit pair.left.now.links pair.right.now.links s t && not ((p == s) && (q == t))) ≡ true → node ≡ node_lit (suc pair.numbering.right) together s t →
    left ≡ first_in pair false p → right ≡ first_in pair true q → row_gap_step pair.count node (p == s) (q == t) left right f ≡ shared_step pair p q f
shared_is pair s t p q node left right f h begun es et e en el er =
    let step : Lit → First → First → Cnf = λ l a b. row_gap_step pair.count l (p == s) (q == t) a b f in
    ap (λ (l : Lit). step l left right) (en ∙ ap (λ (n : ℕ). node_lit (suc n) together s t) (sym h.right.links))
    ∙ ap (λ (a : First). step (node_lit (suc (length pair.right.now.links)) together s t) a right) el
    ∙ ap (λ (b : First). step (node_lit (suc (length pair.right.now.links)) together s t) (first_in pair false p) b) er
    ∙ sym (ap (λ b. when b (row_gap_step pair.count (node_lit (suc (length pair.right.now.links)) together s t) (p == s) (q == t) (first_in pair false p) (first_in pair true q)) f) e)
    ∙ row_is pair s t p q f begun es et

-- all of them
abbrev pub own_distances : Counted → Bool → Cnf → Cnf
own_distances pair right = steps_below (last_of pair right + 1) (λ q. steps_below q (own_step pair right q))

abbrev pub shared_distances : Counted → Cnf → Cnf
shared_distances pair = steps_below (pair.numbering.left + 1) (λ p. steps_below (pair.numbering.right + 1) (shared_step pair p))

pub distances_whole : (pair : Counted) (f : Cnf) → IsCounted pair → shared_distances pair (own_distances pair true (own_distances pair false f)) ≡ distances_step pair f
distances_whole pair f h =
    let lx = h.left.links in
    let ly = h.right.links in
    let em : pair.numbering.left + 1 ≡ suc (length pair.left.now.links) = omega arith in
    let en : pair.numbering.right + 1 ≡ suc (length pair.right.now.links) = omega arith in
    let left : ℕ → Cnf = λ m. steps_below m (λ q. steps_below q (own_step pair false q)) f in
    let right : ℕ → Cnf = λ n. steps_below n (λ q. steps_below q (own_step pair true q)) (left (suc (length pair.left.now.links))) in
    let both : ℕ → ℕ → Cnf = λ m n. steps_below m (λ p. steps_below n (shared_step pair p)) (right (suc (length pair.right.now.links))) in
    ap (λ (m : ℕ). shared_distances pair (own_distances pair true (left m))) em
    ∙ ap (λ (n : ℕ). shared_distances pair (right n)) en
    ∙ ap (λ (m : ℕ). both m (pair.numbering.right + 1)) em ∙ ap (λ (n : ℕ). both (suc (length pair.left.now.links)) n) en

pub own_distances_grow : (pair : Counted) (right : Bool) → Grows (own_distances pair right)
own_distances_grow pair right = steps_grow (last_of pair right + 1) (λ q. steps_below q (own_step pair right q)) (own_row_grows pair right)

pub shared_distances_grow : (pair : Counted) → Grows (shared_distances pair)
shared_distances_grow pair = steps_grow (pair.numbering.left + 1) (λ p. steps_below (pair.numbering.right + 1) (shared_step pair p)) (shared_row_grows pair (pair.numbering.right + 1))

-- there is room for each part
pub record DistanceRooms (pair : Counted) (f : Cnf) (most : ℕ) : Type 0 where
  pub left : (own_distances pair false f).vars ≤ most
  pub right : (own_distances pair true (own_distances pair false f)).vars ≤ most
  pub shared : (shared_distances pair (own_distances pair true (own_distances pair false f))).vars ≤ most
  pub left_more : f.vars ≤ (own_distances pair false f).vars
  pub right_more : f.vars ≤ (own_distances pair true (own_distances pair false f)).vars

pub distance_rooms : (pair : Counted) (f : Cnf) (most : ℕ) → IsCounted pair → (distances_step pair f).vars ≤ most → DistanceRooms pair f most
distance_rooms pair f most h room =
    let a = own_distances_grow pair false f in
    let b = own_distances_grow pair true (own_distances pair false f) in
    let c = shared_distances_grow pair (own_distances pair true (own_distances pair false f)) in
    let whole = ap (λ h. h.vars) (distances_whole pair f h) in
    record { left = omega arith; right = omega arith; shared = omega arith; left_more = a; right_more = omega arith }

-- any selectors take no variable away
own_all_grow : (count : Count) (links : List Combinator) (first : ℕ → First) → Grows (with_own_distances count links first)
own_all_grow count links first = steps_grow (suc (length links)) (λ q. steps_below q (with_own_distance count links first q)) (λ q. steps_grow q (with_own_distance count links first q) (own_grows count links first q))

distances_grow : (x y : SelectorParts) (count : Count) (left right : ℕ → First) → Grows (with_distances x y count left right)
distances_grow x y count left right f =
    let a = own_all_grow count x.links left f in
    let b = own_all_grow count y.links right (with_own_distances count x.links left f) in
    let c = steps_grow (suc (length x.links)) (λ p. steps_below (suc (length y.links)) (with_shared_distance count x y left right p))
    (λ p. steps_grow (suc (length y.links)) (with_shared_distance count x y left right p) (shared_grows count x y left right p))
    (with_own_distances count y.links right (with_own_distances count x.links left f)) in
    omega arith

beside_grows : (x y : SelectorParts) (owns others : Owns) → Grows (with_distances_beside x y owns others)
beside_grows x y owns others = distances_grow x y owns.count (first_of owns.count x.links x.chain owns.left others.left) (first_of owns.count y.links y.chain owns.right others.right)

pub distance_hints_grow : (x y : SelectorParts) (names : Names) → Grows (with_distance_hints x y names)
distance_hints_grow x y names f =
    let a = beside_grows x y (owns_of names Before) (owns_of names Behind) f in
    let b = beside_grows x y (owns_of names Behind) (owns_of names Before) (with_distances_beside x y (owns_of names Before) (owns_of names Behind) f) in
    omega arith

-- both kinds, as rows
abbrev pub distances_by : Numbering → SelectorParts → SelectorParts → Count → Count → Cnf → Cnf
distances_by g x y count other = with_distances_beside x y (owns_at g count) (owns_at g other)

pub both_distances : (x y : SelectorParts) (g : Numbering) (f : Cnf) → distances_by g x y Behind Before (distances_by g x y Before Behind f) ≡ with_distance_hints x y (names_of g.left g.right g.digits) f
both_distances x y g f =
    let names = names_of g.left g.right g.digits in
    let all : Owns → Owns → Cnf = λ before behind. with_distances_beside x y behind before (with_distances_beside x y before behind f) in
    ap (λ before. all before (owns_at g Behind)) (owns_rows g Before) ∙ ap (λ behind. all (owns_of names Before) behind) (owns_rows g Behind)

pub record BothDistances (x y : SelectorParts) (g : Numbering) (f : Cnf) (most : ℕ) : Type 0 where
  pub befores : (distances_by g x y Before Behind f).vars ≤ most
  pub behinds : (distances_by g x y Behind Before (distances_by g x y Before Behind f)).vars ≤ most
  pub befores_more : f.vars ≤ (distances_by g x y Before Behind f).vars

pub both_distance_rooms : (x y : SelectorParts) (g : Numbering) (f : Cnf) (most : ℕ) → (with_distance_hints x y (names_of g.left g.right g.digits) f).vars ≤ most → BothDistances x y g f most
both_distance_rooms x y g f most room =
    let a = beside_grows x y (owns_at g Before) (owns_at g Behind) f in
    let b = beside_grows x y (owns_at g Behind) (owns_at g Before) (distances_by g x y Before Behind f) in
    let whole = ap (λ h. h.vars) (both_distances x y g f) in
    record { befores = omega arith; behinds = omega arith; befores_more = a }
