-- Hints on the distance of two runs in one row of siblings: their remainders give what it leaves.
use Rattle.std.specs.Prelude.{Bool, List, None, Option, Some, [], if◌then◌else◌, length, map, nat_le, not, suc, true, zero, ℕ, ◌%◌, ◌&&◌, ◌++◌, ◌+◌, ◌-◌, ◌==◌, ◌^◌, ◌∷◌}
use Rattle.cnf.specs.Cnf.{Cnf}
use Rattle.cnf.specs.Gates.{with_clauses}
use Rattle.cnf.specs.Lits.{negation}
use Rattle.cnf.specs.Numbers.{with_division}
use Rattle.cnf.specs.Sums.{with_adder}
use Rattle.cnf.specs.declared.lit.Lit.{Lit}
use Rattle.css_model.specs.Documents.SelectorParts.{SelectorParts}
use Rattle.css_model.specs.declared.selector.Combinator.{Combinator}
use Rattle.css_model.specs.declared.selector.Simple.{Simple}
use Rattle.formula_laws.specs.Asked.{run_rests, starts_run}
use Rattle.formula_laws.specs.Counts.{Names, implied, steps_below, when}
use Rattle.formula_laws.specs.Hints.{Owns, owns_of, rest_digits}
use Rattle.formula_laws.specs.Path.{both_fit, node_lit, only_if}
use Rattle.formula_laws.specs.Relations.{same_digits}
use Rattle.formula_laws.specs.declared.count.Count.{Count}
use Rattle.formula_laws.specs.declared.count.Count.TheVariants.{Before, Behind}
use Rattle.grid_laws.specs.Grid.{goes_up_at, together}
use Rattle.remainders.specs.Divisors.{common_divisor}
use Rattle.remainders.specs.Remainders.{joint_rest, joint_step, most_joint}
use Rattle.remainders.specs.declared.remainder.Remainder.{Remainder}

-- the compound with which the row of siblings begins that the k-th compound is in
abbrev pub row_start : List Combinator → ℕ → ℕ
row_start links zero = zero
row_start links (suc k) = if goes_up_at links (suc k) then suc k else row_start links k

-- the numbers of a run's first compound, and what its own one leaves
pub record First : Type 0 where
  pub own : List Lit
  pub other : List Lit
  pub step : ℕ
  pub rest : Option ℕ

-- what a number leaves that leaves all of these, if it is looked for
abbrev pub rest_within : List Remainder → Option ℕ
rest_within rs = if nat_le (joint_step rs) most_joint then joint_rest rs else None

-- the first compound of the run that begins with the p-th one
abbrev pub first_of : Count → List Combinator → List (List Simple) → (ℕ → List Lit) → (ℕ → List Lit) → ℕ → First
first_of count links chain own other p = record {
  own = own p;
  other = other p;
  step = joint_step (run_rests count links chain p);
  rest = rest_within (run_rests count links chain p);
}

-- the highest digit is 1
abbrev pub top_digit : List Lit → List (List Lit)
top_digit [] = []
top_digit (l ∷ []) = (l ∷ []) ∷ []
top_digit (l ∷ m ∷ ls) = top_digit (m ∷ ls)

-- clauses that say nothing where the literal is false
abbrev pub given_clauses : Option Lit → List (List Lit) → List (List Lit)
given_clauses None cs = cs
given_clauses (Some l) cs = implied l cs

-- what 2^n - 1 and the distance leave together
abbrev pub gap_rest : ℕ → ℕ → ℕ → ℕ → ℕ
gap_rest step big small n = (big + (step - small % step) + (2 ^ n - 1)) % step

-- The distance by either kind of numbers, with 2^n - 1 added so that it is not negative. If the order is known it is
-- positive.
abbrev pub with_gap : Option Lit → Bool → ℕ → ℕ → First → First → Cnf → Cnf
with_gap given ordered step rest big small f =
    let u = with_adder f big.own (map negation small.own) in
    let v = with_adder u.0 small.other (map negation big.other) in
    let d = with_division v.0 v.1 step in
    with_clauses d.formula (given_clauses given (same_digits u.1 v.1 ++ (rest_digits d.remainder rest ++ only_if ordered (top_digit u.1 ++ top_digit v.1))))

-- the same where both leave something
abbrev pub with_gap_of : Option Lit → Bool → ℕ → First → First → Option ℕ → Option ℕ → Cnf → Cnf
with_gap_of given ordered step big small None c f = f
with_gap_of given ordered step big small (Some b) None f = f
with_gap_of given ordered step big small (Some b) (Some s) f = with_gap given ordered step (gap_rest step b s (length small.own)) big small f

-- whether two steps have a common divisor of 2 or more
abbrev pub are_related : ℕ → ℕ → Bool
are_related a b = nat_le a most_joint && (nat_le b most_joint && nat_le 2 (common_divisor a b))

-- the hints of two runs, by that whose own number is greater
abbrev pub with_related : Option Lit → Bool → First → First → Cnf → Cnf
with_related given ordered big small = when (are_related big.step small.step)
    (with_gap_of given ordered (common_divisor big.step small.step) big small big.rest small.rest)

-- the same by that to the right: more siblings are before it, and fewer behind it
abbrev pub with_distance : Count → Option Lit → Bool → First → First → Cnf → Cnf
with_distance Before given ordered right left = with_related given ordered right left
with_distance Behind given ordered right left = with_related given ordered left right

-- two runs of one selector
abbrev pub with_own_distance : Count → List Combinator → (ℕ → First) → ℕ → ℕ → Cnf → Cnf
with_own_distance count links first q p = when (starts_run links p && (starts_run links q && (row_start links p == row_start links q)))
    (with_distance count None true (first p) (first q))

-- all of them
abbrev pub with_own_distances : Count → List Combinator → (ℕ → First) → Cnf → Cnf
with_own_distances count links first = steps_below (suc (length links)) (λ q. steps_below q (with_own_distance count links first q))

-- Two runs of different selectors, where s and t are the firsts of their rows. If these share a slot, neither is to the
-- left of any other compound of the row.
abbrev pub with_row_distance : Count → SelectorParts → SelectorParts → (ℕ → First) → (ℕ → First) → ℕ → ℕ → ℕ → ℕ → Cnf → Cnf
with_row_distance count x y left right s t p q = when (both_fit x.links y.links s t && not ((p == s) && (q == t)))
    (if q == t then with_distance count (Some (node_lit (suc (length y.links)) together s t)) true (right q) (left p)
    else with_distance count (Some (node_lit (suc (length y.links)) together s t)) (p == s) (left p) (right q))

-- the same, of the compounds p and q
abbrev pub with_shared_distance : Count → SelectorParts → SelectorParts → (ℕ → First) → (ℕ → First) → ℕ → ℕ → Cnf → Cnf
with_shared_distance count x y left right p q = when (starts_run x.links p && starts_run y.links q)
    (with_row_distance count x y left right (row_start x.links p) (row_start y.links q) p q)

-- the hints on one kind of numbers, where this is known of the runs
abbrev pub with_distances : SelectorParts → SelectorParts → Count → (ℕ → First) → (ℕ → First) → Cnf → Cnf
with_distances x y count left right f =
    let own = with_own_distances count y.links right (with_own_distances count x.links left f) in
    steps_below (suc (length x.links)) (λ p. steps_below (suc (length y.links)) (with_shared_distance count x y left right p)) own

-- the hints on one kind of numbers, beside the other kind
abbrev pub with_distances_beside : SelectorParts → SelectorParts → Owns → Owns → Cnf → Cnf
with_distances_beside x y owns others =
    with_distances x y owns.count (first_of owns.count x.links x.chain owns.left others.left) (first_of owns.count y.links y.chain owns.right others.right)

-- the hints on distances
abbrev pub with_distance_hints : SelectorParts → SelectorParts → Names → Cnf → Cnf
with_distance_hints x y names f =
    with_distances_beside x y (owns_of names Behind) (owns_of names Before) (with_distances_beside x y (owns_of names Before) (owns_of names Behind) f)
