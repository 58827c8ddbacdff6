-- The sizes of hints on distances.
use Rattle.std.proofs.Common.{Bool, List, Option, [], arith, false, length, map, max, suc, true, ℕ, ◌*◌, ◌++◌, ◌+◌, ◌≡◌, ◌≤◌, ◌∷◌}
use Rattle.std.proofs.lemmas.List.{length-append, length-map}
use Rattle.std.specs.Prelude.{None, Some, if◌then◌else◌, not, ◌&&◌, ◌==◌}
use Rattle.cnf.proofs.ForCallers.{adder-size, division-size, length-adder, length-remainder}
use Rattle.cnf.specs.Cnf.{Cnf}
use Rattle.cnf.specs.Lits.{negation}
use Rattle.cnf.specs.Numbers.{remainder_digits, with_division}
use Rattle.cnf.specs.Sums.{with_adder}
use Rattle.cnf.specs.declared.lit.Lit.{Lit}
use Rattle.css_model.specs.Documents.SelectorParts.{SelectorParts}
use Rattle.css_model.specs.declared.selector.Combinator.{Combinator}
use Rattle.formula_laws.proofs.Sizes.HintSizes.{digits_few}
use Rattle.formula_laws.proofs.Sizes.Sizes.{Sized, both_size, digits_size, implied_size, more_size, most_size, only_size, when_size}
use Rattle.formula_laws.proofs.Sizes.TestSizes.{digits_at_most, product_at_most}
use Rattle.formula_laws.specs.Asked.{starts_run}
use Rattle.formula_laws.specs.Counts.{Names, steps_below}
use Rattle.formula_laws.specs.Distances.{First, are_related, first_of, gap_rest, given_clauses, row_start, top_digit, with_distance, with_distance_hints, with_distances, with_gap, with_gap_of, with_own_distance, with_own_distances, with_related, with_row_distance, with_shared_distance}
use Rattle.formula_laws.specs.Hints.{rest_digits}
use Rattle.formula_laws.specs.Path.{both_fit, node_lit, only_if}
use Rattle.formula_laws.specs.Relations.{same_digits}
use Rattle.formula_laws.specs.declared.count.Count.{Count}
use Rattle.formula_laws.specs.declared.count.Count.TheVariants.{Before, Behind}
use Rattle.grid_laws.specs.Grid.{together}
use Rattle.remainders.specs.Divisors.{common_divisor}

-- both numbers have at most 25 digits
abbrev pub IsShortFirst : First → Type 0
IsShortFirst first = (length first.own ≤ 25) × (length first.other ≤ 25)

top_few : (ls : List Lit) → length (top_digit ls) ≤ 1
top_few [] = omega arith
top_few (l ∷ []) = omega arith
top_few (l ∷ m ∷ ls) = top_few (m ∷ ls)

given_few : (given : Option Lit) (cs : List (List Lit)) → length (given_clauses given cs) ≡ length cs
given_few None cs = omega arith
given_few (Some l) cs = implied_size l cs

gap_few : (ordered : Bool) (u v r : List Lit) (rest : ℕ) → length u ≤ 26 → length r ≤ 32 → length (same_digits u v ++ (rest_digits r rest ++ only_if ordered (top_digit u ++ top_digit v))) ≤ 86
gap_few ordered u v r rest hu hr =
    let e = length-append (same_digits u v) (rest_digits r rest ++ only_if ordered (top_digit u ++ top_digit v)) in
    let e' = length-append (rest_digits r rest) (only_if ordered (top_digit u ++ top_digit v)) in
    let e'' = length-append (top_digit u) (top_digit v) in
    let o = only_size ordered (top_digit u ++ top_digit v) in
    let d = digits_size u v in
    let f = digits_few r rest in
    let t = top_few u in
    let t' = top_few v in
    omega arith

gap_size : (given : Option Lit) (ordered : Bool) (step rest : ℕ) (big small : First) → IsShortFirst big → IsShortFirst small → Sized (with_gap given ordered step rest big small) 2650 20328
gap_size given ordered step rest big small hb hs f =
    let u = with_adder f big.own (map negation small.own) in
    let su = adder-size f big.own (map negation small.own) in
    let lu = length-adder f big.own (map negation small.own) in
    let v = with_adder u.0 small.other (map negation big.other) in
    let sv = adder-size u.0 small.other (map negation big.other) in
    let lv = length-adder u.0 small.other (map negation big.other) in
    let d = with_division v.0 v.1 step in
    let sd = division-size v.0 v.1 step in
    let ld = length-remainder v.0 v.1 step in
    let r = digits_at_most step in
    let b0 = hb.0 in let b1 = hb.1 in let s0 = hs.0 in let s1 = hs.1 in
    let ns = length-map small.own negation in
    let no = length-map big.other negation in
    let mu : max (length big.own) (length (map negation small.own)) ≤ 25 = omega arith in
    let mv : max (length small.other) (length (map negation big.other)) ≤ 25 = omega arith in
    let pv = product_at_most (3 * remainder_digits step + 2) (length v.1) 98 26 (omega arith) (omega arith) in
    let pc = product_at_most (23 * remainder_digits step + 4) (length v.1) 740 26 (omega arith) (omega arith) in
    let cs = same_digits u.1 v.1 ++ (rest_digits d.remainder rest ++ only_if ordered (top_digit u.1 ++ top_digit v.1)) in
    let few = gap_few ordered u.1 v.1 d.remainder rest (omega arith) (omega arith) in
    let g = given_few given cs in
    let e = length-append d.formula.clauses (given_clauses given cs) in
    record {
      vars_bound = let x = su.vars_bound in let y = sv.vars_bound in let z = sd.vars_bound in omega arith;
      clauses_bound = let x = su.clauses_bound in let y = sv.clauses_bound in let z = sd.clauses_bound in omega arith;
    }

none_size : Sized (λ f. f) 2650 20328
none_size f = record { vars_bound = omega arith; clauses_bound = omega arith }

gap_of_size : (given : Option Lit) (ordered : Bool) (step : ℕ) (big small : First) (b s : Option ℕ) → IsShortFirst big → IsShortFirst small → Sized (with_gap_of given ordered step big small b s) 2650 20328
gap_of_size given ordered step big small None s hb hs = none_size
gap_of_size given ordered step big small (Some b) None hb hs = none_size
gap_of_size given ordered step big small (Some b) (Some s) hb hs = gap_size given ordered step (gap_rest step b s (length small.own)) big small hb hs

related_size : (given : Option Lit) (ordered : Bool) (big small : First) → IsShortFirst big → IsShortFirst small → Sized (with_related given ordered big small) 2650 20328
related_size given ordered big small hb hs =
    when_size (are_related big.step small.step) (with_gap_of given ordered (common_divisor big.step small.step) big small big.rest small.rest) 2650 20328
    (gap_of_size given ordered (common_divisor big.step small.step) big small big.rest small.rest hb hs)

distance_size : (count : Count) (given : Option Lit) (ordered : Bool) (right left : First) → IsShortFirst right → IsShortFirst left → Sized (with_distance count given ordered right left) 2650 20328
distance_size Before given ordered right left hr hl = related_size given ordered right left hr hl
distance_size Behind given ordered right left hr hl = related_size given ordered left right hl hr

if_size : (b : Bool) (s t : Cnf → Cnf) (v c : ℕ) → Sized s v c → Sized t v c → Sized (if b then s else t) v c
if_size true s t v c hs ht = hs
if_size false s t v c hs ht = ht

own_size : (count : Count) (links : List Combinator) (first : ℕ → First) → length links ≤ 11 → ((p : ℕ) → IsShortFirst (first p)) → Sized (λ f. with_own_distances count links first f) (12 * (12 * 2650)) (12 * (12 * 20328))
own_size count links first few short =
    most_size 12 (suc (length links)) (λ q f. steps_below q (with_own_distance count links first q) f) (12 * 2650) (12 * 20328) (omega arith) (λ q hq.
    most_size 12 q (with_own_distance count links first q) 2650 20328 (omega arith) (λ p hp.
    when_size (starts_run links p && (starts_run links q && (row_start links p == row_start links q))) (with_distance count None true (first p) (first q)) 2650 20328 (distance_size count None true (first p) (first q) (short p) (short q))))

row_size : (count : Count) (x y : SelectorParts) (left right : ℕ → First) (s t p q : ℕ) → IsShortFirst (left p) → IsShortFirst (right q) → Sized (with_row_distance count x y left right s t p q) 2650 20328
row_size count x y left right s t p q hl hr =
    when_size (both_fit x.links y.links s t && not ((p == s) && (q == t))) (if q == t then with_distance count (Some cell) true (right q) (left p) else with_distance count (Some cell) (p == s) (left p) (right q)) 2650 20328
    (if_size (q == t) (with_distance count (Some cell) true (right q) (left p)) (with_distance count (Some cell) (p == s) (left p) (right q)) 2650 20328
    (distance_size count (Some cell) true (right q) (left p) hr hl) (distance_size count (Some cell) (p == s) (left p) (right q) hl hr))
  where
    cell : Lit
    cell = node_lit (suc (length y.links)) together s t

kind_size : (x y : SelectorParts) (count : Count) (left right : ℕ → First) → length x.links ≤ 11 → length y.links ≤ 11 → ((p : ℕ) → IsShortFirst (left p)) → ((q : ℕ) → IsShortFirst (right q)) →
    Sized (λ f. with_distances x y count left right f) (12 * (12 * 2650) + 12 * (12 * 2650) + 12 * (12 * 2650)) (12 * (12 * 20328) + 12 * (12 * 20328) + 12 * (12 * 20328))
kind_size x y count left right hx hy hl hr =
    both_size (λ f. with_own_distances count y.links right (with_own_distances count x.links left f)) (λ f. steps_below (suc (length x.links)) (λ p. steps_below (suc (length y.links)) (with_shared_distance count x y left right p)) f)
    (12 * (12 * 2650) + 12 * (12 * 2650)) (12 * (12 * 20328) + 12 * (12 * 20328)) (12 * (12 * 2650)) (12 * (12 * 20328))
    (both_size (λ f. with_own_distances count x.links left f) (λ f. with_own_distances count y.links right f) (12 * (12 * 2650)) (12 * (12 * 20328)) (12 * (12 * 2650)) (12 * (12 * 20328)) (own_size count x.links left hx hl) (own_size count y.links right hy hr))
    (most_size 12 (suc (length x.links)) (λ p f. steps_below (suc (length y.links)) (with_shared_distance count x y left right p) f) (12 * 2650) (12 * 20328) (omega arith) (λ p hp.
    most_size 12 (suc (length y.links)) (with_shared_distance count x y left right p) 2650 20328 (omega arith) (λ q hq.
    when_size (starts_run x.links p && starts_run y.links q) (with_row_distance count x y left right (row_start x.links p) (row_start y.links q) p q) 2650 20328
    (row_size count x y left right (row_start x.links p) (row_start y.links q) p q (hl p) (hr q)))))

pub distances_size : (x y : SelectorParts) (names : Names) → length x.links ≤ 11 → length y.links ≤ 11 → ((i : ℕ) → length (names.bx i) ≤ 25) → ((i : ℕ) → length (names.ax i) ≤ 25) → ((j : ℕ) → length (names.by j) ≤ 25) → ((j : ℕ) → length (names.ay j) ≤ 25) →
    Sized (λ f. with_distance_hints x y names f) 2289600 17563392
distances_size x y names hx hy bx ax by ay =
    more_size (λ f. with_distance_hints x y names f) (12 * (12 * 2650) + 12 * (12 * 2650) + 12 * (12 * 2650) + (12 * (12 * 2650) + 12 * (12 * 2650) + 12 * (12 * 2650)))
    (12 * (12 * 20328) + 12 * (12 * 20328) + 12 * (12 * 20328) + (12 * (12 * 20328) + 12 * (12 * 20328) + 12 * (12 * 20328))) 2289600 17563392 (omega arith) (omega arith)
    (both_size (λ f. with_distances x y Before (first_of Before x.links x.chain names.bx names.ax) (first_of Before y.links y.chain names.by names.ay) f)
    (λ f. with_distances x y Behind (first_of Behind x.links x.chain names.ax names.bx) (first_of Behind y.links y.chain names.ay names.by) f)
    (12 * (12 * 2650) + 12 * (12 * 2650) + 12 * (12 * 2650)) (12 * (12 * 20328) + 12 * (12 * 20328) + 12 * (12 * 20328)) (12 * (12 * 2650) + 12 * (12 * 2650) + 12 * (12 * 2650)) (12 * (12 * 20328) + 12 * (12 * 20328) + 12 * (12 * 20328))
    (kind_size x y Before (first_of Before x.links x.chain names.bx names.ax) (first_of Before y.links y.chain names.by names.ay) hx hy (λ p. (bx p, ax p)) (λ q. (by q, ay q)))
    (kind_size x y Behind (first_of Behind x.links x.chain names.ax names.bx) (first_of Behind y.links y.chain names.ay names.by) hx hy (λ p. (ax p, bx p)) (λ q. (ay q, by q))))
