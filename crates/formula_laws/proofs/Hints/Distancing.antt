-- Hints on the distances of all runs.
use Rattle.std.proofs.Common.{Bool, IsTrue, List, ap, arith, false, inl, inr, length, not, refl, suc, sym, true, ℕ, ◌&&◌, ◌*◌, ◌+◌, ◌<◌, ◌∙◌, ◌≡◌, ◌≤◌}
use Rattle.std.proofs.lemmas.Bool.{and_parts, cases_lt, cond-true, eq-eqb, eqb-true, false≢true, le-leb}
use Rattle.std.specs.List.{AllByRecursion}
use Rattle.std.specs.Prelude.{None, Some, if◌then◌else◌, nat_le, ◌==◌}
use Rattle.cnf.specs.Cnf.{Cnf}
use Rattle.cnf.specs.Lits.{is_below}
use Rattle.cnf.specs.Sums.{number}
use Rattle.cnf.specs.Values.{value}
use Rattle.cnf.specs.declared.lit.Lit.{Lit}
use Rattle.css_model.specs.Documents.SelectorParts.{SelectorParts}
use Rattle.css_model.specs.declared.selector.Combinator.{Combinator}
use Rattle.css_model.specs.declared.selector.Simple.{Simple}
use Rattle.formula_laws.proofs.Hints.Gaps.{FirstDigits, FirstLeaves, IsRight, distance_hint}
use Rattle.formula_laws.proofs.Hints.Hint.{Hint, IsStable, below_hint, both_hints, when_hint}
use Rattle.formula_laws.proofs.Hints.Remaining.{befores_say, behinds_say, left_fits, right_fits}
use Rattle.formula_laws.proofs.Hints.Rows.{row_numbers, start_again, start_below}
use Rattle.formula_laws.proofs.Hints.Runs.{run_steps}
use Rattle.formula_laws.proofs.Items.Ranges.{node_below}
use Rattle.formula_laws.proofs.Numbers.Counted.{HasDigits, NamesBelow}
use Rattle.formula_laws.proofs.Whole.Conditions.{Says}
use Rattle.formula_laws.specs.Allowed.{Allowed}
use Rattle.formula_laws.specs.Asked.{run_rests, starts_run}
use Rattle.formula_laws.specs.Counts.{Names, steps_below}
use Rattle.formula_laws.specs.Distances.{First, first_of, row_start, with_distance, with_distance_hints, with_distances, with_own_distance, with_own_distances, with_row_distance, with_shared_distance}
use Rattle.formula_laws.specs.Path.{both_fit, node_lit}
use Rattle.formula_laws.specs.declared.count.Count.{Count}
use Rattle.formula_laws.specs.declared.count.Count.TheVariants.{Before, Behind}
use Rattle.grid_laws.specs.Grid.{together}
use Rattle.grid_laws.specs.Numbers.{RunFits}
use Rattle.grid_laws.specs.Solved.{numbers_asked}
use Rattle.remainders.proofs.ForCallers.{joint_left, joint_positive}
use Rattle.remainders.specs.Remainders.{Leaves, joint_rest, joint_step, most_joint}

-- two elements of a row, without their order
abbrev pub RowSays : First → First → List Bool → Type 0
RowSays right left vs = number vs right.own + number vs right.other ≡ number vs left.own + number vs left.other

-- what two chains say of one kind of their numbers, beside the other kind
pub record DistancesSay (count : Count) (x y : SelectorParts) (left right : ℕ → First) (vs : List Bool) : Type 0 where
  pub left_leaves : (p : ℕ) → FirstLeaves vs (left p)
  pub right_leaves : (q : ℕ) → FirstLeaves vs (right q)
  pub left_row : (p q : ℕ) → p ≤ q → q ≤ length x.links → row_start x.links p ≡ row_start x.links q → RowSays (left p) (left q) vs × (p < q → IsRight count (number vs (left p).own) (number vs (left q).own))
  pub right_row : (p q : ℕ) → p ≤ q → q ≤ length y.links → row_start y.links p ≡ row_start y.links q → RowSays (right p) (right q) vs × (p < q → IsRight count (number vs (right p).own) (number vs (right q).own))
  pub shared : (i j : ℕ) → i ≤ length x.links → j ≤ length y.links → both_fit x.links y.links i j ≡ true → value vs (node_lit (suc (length y.links)) together i j) ≡ true →
      (number vs (left i).own ≡ number vs (right j).own) × (number vs (left i).other ≡ number vs (right j).other)

if_hint : (base : ℕ) (b : Bool) (s t : Cnf → Cnf) (P : List Bool → Type 0) → (b ≡ true → Hint base s P) → (b ≡ false → Hint base t P) → Hint base (if b then s else t) P
if_hint base true s t P here there = here refl
if_hint base false s t P here there = there refl

-- what is known of the first compounds, whatever the values
pub record FirstsFit (base w n : ℕ) (first : ℕ → First) : Type 0 where
  pub digits : (p : ℕ) → p ≤ n → FirstDigits base w (first p)
  pub some : (p : ℕ) → 0 < (first p).step

own_hint : (base w : ℕ) (count : Count) (links : List Combinator) (first : ℕ → First) (P : List Bool → Type 0) → IsStable base P → FirstsFit base w (length links) first → ((vs : List Bool) → P vs → (p : ℕ) → FirstLeaves vs (first p)) →
    ((vs : List Bool) → P vs → (p q : ℕ) → p ≤ q → q ≤ length links → row_start links p ≡ row_start links q → RowSays (first p) (first q) vs × (p < q → IsRight count (number vs (first p).own) (number vs (first q).own))) →
    Hint base (λ f. with_own_distances count links first f) P
own_hint base w count links first P stable fit leaves row =
    below_hint base (suc (length links)) (λ q f. steps_below q (with_own_distance count links first q) f) P stable (λ q hq.
    below_hint base q (with_own_distance count links first q) P stable (λ p hp.
    when_hint base (starts_run links p && (starts_run links q && (row_start links p == row_start links q))) (with_distance count None true (first p) (first q)) P (λ e.
    let same = eqb-true (row_start links p) (row_start links q) (and_parts (starts_run links q) (row_start links p == row_start links q) (and_parts (starts_run links p) (starts_run links q && (row_start links p == row_start links q)) e).1).1 in
    distance_hint base w count None true (first p) (first q) P stable refl (fit.digits p (omega arith)) (fit.digits q (omega arith)) (fit.some p) (fit.some q) (λ vs s. (leaves vs s p, leaves vs s q))
    (λ vs s _. let r = row vs s p q (omega arith) (omega arith) same in (r.0, λ _. r.1 hp)))))

not_true : (b : Bool) → not b ≡ true → b ≡ false
not_true true e = sym e
not_true false e = refl

-- a compound that is not the first of its row is behind that
apart_from : (links : List Combinator) (k : ℕ) → (k == row_start links k) ≡ false → row_start links k < k
apart_from links k e = elim (cases_lt (row_start links k) k) [
  | inl less ↦ less
  | inr more ↦ (let l = start_below links k in absurd (false≢true (sym e ∙ eq-eqb k (row_start links k) (omega arith))))
]

first_false : (a b : Bool) → (a && b) ≡ false → b ≡ true → a ≡ false
first_false true b e h = absurd (false≢true (sym e ∙ h))
first_false false b e h = refl

right_of : (count : Count) (a b c d : ℕ) → IsRight count a b → a ≡ c → b ≡ d → IsRight count c d
right_of Before a b c d h e e' = omega arith
right_of Behind a b c d h e e' = omega arith

row_hint : (base w : ℕ) (count : Count) (x y : SelectorParts) (left right : ℕ → First) (p q : ℕ) (P : List Bool → Type 0) → IsStable base P → 3 * (suc (length x.links) * suc (length y.links)) ≤ base → p ≤ length x.links → q ≤ length y.links →
    FirstsFit base w (length x.links) left → FirstsFit base w (length y.links) right → ((vs : List Bool) → P vs → DistancesSay count x y left right vs) →
    Hint base (with_row_distance count x y left right (row_start x.links p) (row_start y.links q) p q) P
row_hint base w count x y left right p q P stable nodes hp hq fl fr says =
    when_hint base (both_fit x.links y.links s t && not ((p == s) && (q == t))) (if q == t then with_distance count (Some cell) true (right q) (left p) else with_distance count (Some cell) (p == s) (left p) (right q)) P (λ e.
    let parts = and_parts (both_fit x.links y.links s t) (not ((p == s) && (q == t))) e in
    if_hint base (q == t) (with_distance count (Some cell) true (right q) (left p)) (with_distance count (Some cell) (p == s) (left p) (right q)) P
    (λ here. distance_hint base w count (Some cell) true (right q) (left p) P stable in_range (fr.digits q hq) (fl.digits p hp) (fr.some q) (fl.some p) (λ vs v. ((says vs v).right_leaves q, (says vs v).left_leaves p))
    (λ vs v given. (sym (sums vs (says vs v) parts.0 given), λ _. right_first vs (says vs v) parts.0 given here (not_true ((p == s) && (q == t)) parts.1))))
    (λ there. distance_hint base w count (Some cell) (p == s) (left p) (right q) P stable in_range (fl.digits p hp) (fr.digits q hq) (fl.some p) (fr.some q) (λ vs v. ((says vs v).left_leaves p, (says vs v).right_leaves q))
    (λ vs v given. (sums vs (says vs v) parts.0 given, λ here. left_first vs (says vs v) parts.0 given here there))))
  where
    s : ℕ
    s = row_start x.links p

    t : ℕ
    t = row_start y.links q

    cell : Lit
    cell = node_lit (suc (length y.links)) together s t

    low_left : s ≤ p
    low_left = start_below x.links p

    low_right : t ≤ q
    low_right = start_below y.links q

    left_inside : s ≤ length x.links
    left_inside = let l = low_left in omega arith

    right_inside : t ≤ length y.links
    right_inside = let l = low_right in omega arith

    in_range : IsTrue (is_below base cell)
    in_range = node_below (length x.links) (length y.links) together s t base left_inside right_inside nodes

    sums : (vs : List Bool) → DistancesSay count x y left right vs → both_fit x.links y.links s t ≡ true → value vs cell ≡ true → RowSays (left p) (right q) vs
    sums vs d fits given =
        let a = (d.left_row s p low_left hp (start_again x.links p)).0 in
        let b = (d.right_row t q low_right hq (start_again y.links q)).0 in
        let c = d.shared s t left_inside right_inside fits given in
        let c0 = c.0 in let c1 = c.1 in
        omega arith

    right_first : (vs : List Bool) → DistancesSay count x y left right vs → both_fit x.links y.links s t ≡ true → value vs cell ≡ true → (q == t) ≡ true → ((p == s) && (q == t)) ≡ false → IsRight count (number vs (right q).own) (number vs (left p).own)
    right_first vs d fits given here apart =
        let is = eqb-true q t here in
        let c = d.shared s t left_inside right_inside fits given in
        let a = (d.left_row s p low_left hp (start_again x.links p)).1 (apart_from x.links p (first_false (p == s) (q == t) apart here)) in
        right_of count (number vs (left s).own) (number vs (left p).own) (number vs (right q).own) (number vs (left p).own) a (c.0 ∙ ap (λ (k : ℕ). number vs (right k).own) (sym is)) refl

    left_first : (vs : List Bool) → DistancesSay count x y left right vs → both_fit x.links y.links s t ≡ true → value vs cell ≡ true → (p == s) ≡ true → (q == t) ≡ false → IsRight count (number vs (left p).own) (number vs (right q).own)
    left_first vs d fits given here there =
        let is = eqb-true p s here in
        let c = d.shared s t left_inside right_inside fits given in
        let b = (d.right_row t q low_right hq (start_again y.links q)).1 (apart_from y.links q there) in
        right_of count (number vs (right t).own) (number vs (right q).own) (number vs (left p).own) (number vs (right q).own) b (sym c.0 ∙ ap (λ (k : ℕ). number vs (left k).own) (sym is)) refl

kind_hint : (base w : ℕ) (x y : SelectorParts) (count : Count) (left right : ℕ → First) (P : List Bool → Type 0) → IsStable base P → 3 * (suc (length x.links) * suc (length y.links)) ≤ base →
    FirstsFit base w (length x.links) left → FirstsFit base w (length y.links) right → ((vs : List Bool) → P vs → DistancesSay count x y left right vs) → Hint base (λ f. with_distances x y count left right f) P
kind_hint base w x y count left right P stable nodes fl fr says =
    both_hints base (λ f. with_own_distances count y.links right (with_own_distances count x.links left f)) (λ f. steps_below (suc (length x.links)) (λ p. steps_below (suc (length y.links)) (with_shared_distance count x y left right p)) f) P stable
    (both_hints base (λ f. with_own_distances count x.links left f) (λ f. with_own_distances count y.links right f) P stable
    (own_hint base w count x.links left P stable fl (λ vs s. (says vs s).left_leaves) (λ vs s. (says vs s).left_row))
    (own_hint base w count y.links right P stable fr (λ vs s. (says vs s).right_leaves) (λ vs s. (says vs s).right_row)))
    (below_hint base (suc (length x.links)) (λ p f. steps_below (suc (length y.links)) (with_shared_distance count x y left right p) f) P stable (λ p hp.
    below_hint base (suc (length y.links)) (with_shared_distance count x y left right p) P stable (λ q hq.
    when_hint base (starts_run x.links p && starts_run y.links q) (with_row_distance count x y left right (row_start x.links p) (row_start y.links q) p q) P (λ _.
    row_hint base w count x y left right p q P stable nodes (omega arith) (omega arith) fl fr says))))

firsts_fit : (base w : ℕ) (count : Count) (links : List Combinator) (chain : List (List Simple)) (own other : ℕ → List Lit) → ((p : ℕ) → p ≤ length links → HasDigits base w (own p)) → ((p : ℕ) → p ≤ length links → HasDigits base w (other p)) →
    FirstsFit base w (length links) (first_of count links chain own other)
firsts_fit base w count links chain own other ho ht = record {
  digits = λ p h. (ho p h, ht p h);
  some = λ p. joint_positive (run_rests count links chain p) (run_steps count links chain p);
}

first_leaves : (count : Count) (links : List Combinator) (chain : List (List Simple)) (own other : ℕ → List Lit) (vs : List Bool) → ((p : ℕ) → AllByRecursion (Leaves (number vs (own p))) (run_rests count links chain p)) →
    (p : ℕ) → FirstLeaves vs (first_of count links chain own other p)
first_leaves count links chain own other vs leaves p few =
    cond-true (nat_le (joint_step (run_rests count links chain p)) most_joint) (joint_rest (run_rests count links chain p)) None (le-leb (joint_step (run_rests count links chain p)) most_joint few)
    ∙ joint_left (number vs (own p)) (run_rests count links chain p) (leaves p) few

-- along a row of a chain
before_row : (links : List Combinator) (b a : ℕ → ℕ) → RunFits links b a → (p q : ℕ) → p ≤ q → q ≤ length links → row_start links p ≡ row_start links q → (b p + a p ≡ b q + a q) × (p < q → b q < b p)
before_row links b a fits p q low high same =
    let r = row_numbers links b a fits p q low high same in
    let r0 = r.falls in let r1 = r.sum in
    (omega arith, λ less. omega arith)

behind_row : (links : List Combinator) (b a : ℕ → ℕ) → RunFits links b a → (p q : ℕ) → p ≤ q → q ≤ length links → row_start links p ≡ row_start links q → (a p + b p ≡ a q + b q) × (p < q → a p < a q)
behind_row links b a fits p q low high same =
    let r = row_numbers links b a fits p q low high same in
    let r0 = r.falls in let r1 = r.sum in
    (omega arith, λ less. omega arith)

befores_apart : (x y : SelectorParts) (allowed : Allowed) (names : Names) (vs : List Bool) → numbers_asked x y ≡ true → Says x y allowed names vs →
    DistancesSay Before x y (first_of Before x.links x.chain names.bx names.ax) (first_of Before y.links y.chain names.by names.ay) vs
befores_apart x y allowed names vs asked s =
    let owns = befores_say x y allowed names vs asked s in
    record {
      left_leaves = first_leaves Before x.links x.chain names.bx names.ax vs owns.left;
      right_leaves = first_leaves Before y.links y.chain names.by names.ay vs owns.right;
      left_row = before_row x.links (λ i. number vs (names.bx i)) (λ i. number vs (names.ax i)) (left_fits x y allowed names vs asked s);
      right_row = before_row y.links (λ j. number vs (names.by j)) (λ j. number vs (names.ay j)) (right_fits x y allowed names vs asked s);
      shared = λ i j hi hj both t. (s.numbers asked).1.equal i (omega arith) j (omega arith) both t;
    }

behinds_apart : (x y : SelectorParts) (allowed : Allowed) (names : Names) (vs : List Bool) → numbers_asked x y ≡ true → Says x y allowed names vs →
    DistancesSay Behind x y (first_of Behind x.links x.chain names.ax names.bx) (first_of Behind y.links y.chain names.ay names.by) vs
behinds_apart x y allowed names vs asked s =
    let owns = behinds_say x y allowed names vs asked s in
    record {
      left_leaves = first_leaves Behind x.links x.chain names.ax names.bx vs owns.left;
      right_leaves = first_leaves Behind y.links y.chain names.ay names.by vs owns.right;
      left_row = behind_row x.links (λ i. number vs (names.bx i)) (λ i. number vs (names.ax i)) (left_fits x y allowed names vs asked s);
      right_row = behind_row y.links (λ j. number vs (names.by j)) (λ j. number vs (names.ay j)) (right_fits x y allowed names vs asked s);
      shared = λ i j hi hj both t. let e = (s.numbers asked).1.equal i (omega arith) j (omega arith) both t in (e.1, e.0);
    }

-- those of both kinds of numbers
pub distance_hints_hint : (base w : ℕ) (x y : SelectorParts) (allowed : Allowed) (names : Names) → NamesBelow base (length x.links) (length y.links) w names → IsStable base (Says x y allowed names) → numbers_asked x y ≡ true →
    Hint base (λ f. with_distance_hints x y names f) (Says x y allowed names)
distance_hints_hint base w x y allowed names h stable asked =
    both_hints base (λ f. with_distances x y Before (first_of Before x.links x.chain names.bx names.ax) (first_of Before y.links y.chain names.by names.ay) f)
    (λ f. with_distances x y Behind (first_of Behind x.links x.chain names.ax names.bx) (first_of Behind y.links y.chain names.ay names.by) f) (Says x y allowed names) stable
    (kind_hint base w x y Before (first_of Before x.links x.chain names.bx names.ax) (first_of Before y.links y.chain names.by names.ay) (Says x y allowed names) stable h.nodes
    (firsts_fit base w Before x.links x.chain names.bx names.ax h.bx h.ax) (firsts_fit base w Before y.links y.chain names.by names.ay h.by h.ay) (λ vs s. befores_apart x y allowed names vs asked s))
    (kind_hint base w x y Behind (first_of Behind x.links x.chain names.ax names.bx) (first_of Behind y.links y.chain names.ay names.by) (Says x y allowed names) stable h.nodes
    (firsts_fit base w Behind x.links x.chain names.ax names.bx h.ax h.bx) (firsts_fit base w Behind y.links y.chain names.ay names.by h.ay h.by) (λ vs s. behinds_apart x y allowed names vs asked s))
