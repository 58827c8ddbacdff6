-- Hints on the distance of two runs.
use Rattle.std.proofs.Common.{Bool, IsTrue, List, Option, [], ap, arith, false, length, map, refl, sym, true, ℕ, ◌++◌, ◌∙◌, ◌∷◌, ◌≡◌, ◌≢◌, ◌≤◌}
use Rattle.std.proofs.lemmas.List.{append_assoc}
use Rattle.std.specs.Prelude.{None, Some, IfSome}
use Rattle.cnf.proofs.ForCallers.{adder-grows, are_below-mono, are_below-negations, division-grows, is_below-mono, is_below-negation, one_below, pair_below}
use Rattle.cnf.specs.Cnf.{Cnf}
use Rattle.cnf.specs.Gates.{with_clauses}
use Rattle.cnf.specs.Lits.{are_below, is_below, negation}
use Rattle.cnf.specs.Numbers.{with_division}
use Rattle.cnf.specs.Sums.{with_adder}
use Rattle.cnf.specs.declared.lit.Lit.{Lit}
use Rattle.formula_laws.specs.Counts.{implied, when}
use Rattle.formula_laws.specs.Distances.{First, are_related, gap_rest, given_clauses, top_digit, with_distance, with_gap, with_gap_of, with_related}
use Rattle.formula_laws.specs.Hints.{rest_digits}
use Rattle.formula_laws.specs.Path.{only_if}
use Rattle.formula_laws.specs.Relations.{same_digits}
use Rattle.formula_laws.specs.declared.count.Count.{Count}
use Rattle.formula_laws.specs.declared.count.Count.TheVariants.{Before, Behind}
use Rattle.hint_clauses.specs.Fronts.{first_by}
use Rattle.hint_clauses.specs.Gaps.{related_step}
use Rattle.hint_clauses.specs.declared.gaps.Gap.{Gap}
use Rattle.remainders.specs.Divisors.{common_divisor}
use Rattle.sibling_clauses.proofs.ForCallers.{Grows, added_none, added_twice, first_in_range, rest_in_range, when_grows}

-- clauses that a literal stands before, in two parts
implied_in_two : (l : Lit) (a b : List (List Lit)) → implied l a ++ implied l b ≡ implied l (a ++ b)
implied_in_two l [] b = refl
implied_in_two l (c ∷ cs) b = ap (λ ds. (negation l ∷ c) ∷ ds) (implied_in_two l cs b)

given_in_two : (given : Option Lit) (a b : List (List Lit)) → given_clauses given a ++ given_clauses given b ≡ given_clauses given (a ++ b)
given_in_two None a b = refl
given_in_two (Some l) a b = implied_in_two l a b

given_nothing : (given : Option Lit) → [] ≡ given_clauses given []
given_nothing None = refl
given_nothing (Some l) = refl

-- the literal stays in range
pub given_stays : (m n : ℕ) (given : Option Lit) → IfSome given (λ l. IsTrue (is_below m l)) → m ≤ n → IfSome given (λ l. IsTrue (is_below n l))
given_stays m n None h le = h
given_stays m n (Some l) h le = is_below-mono m n le l h

pub negated_below : (n : ℕ) (ls ms : List Lit) → ms ≡ map negation ls → IsTrue (are_below n ls) → IsTrue (are_below n ms)
negated_below n ls ms e h = rw e (are_below-negations n ls h)

pub list_stays : (m n : ℕ) (ls : List Lit) → IsTrue (are_below m ls) → m ≤ n → IsTrue (are_below n ls)
list_stays m n ls h le = are_below-mono m n le ls h

pub kept_below : (f g h : Cnf) (a b : List (List Lit)) (ls : List Lit) → g ≡ with_clauses f a → h ≡ with_clauses g b → IsTrue (are_below f.vars ls) → IsTrue (are_below h.vars ls)
kept_below f g h a b ls eg eh below = rw (eh, eg) below

-- the highest digits of two numbers, one after the other
pub tops_added : (given : Option Lit) (ordered : Bool) (a b : List (List Lit)) (f g h : Cnf) → ordered ≡ true → g ≡ with_clauses f (given_clauses given a) → h ≡ with_clauses g (given_clauses given b) →
    h ≡ with_clauses f (given_clauses given (only_if ordered (a ++ b)))
tops_added given ordered a b f g h e eg eh =
    eh ∙ ap (λ k. with_clauses k (given_clauses given b)) eg ∙ added_twice f (given_clauses given a) (given_clauses given b)
    ∙ ap (with_clauses f) (given_in_two given a b) ∙ sym (ap (λ o. with_clauses f (given_clauses given (only_if o (a ++ b)))) e)

pub tops_out : (given : Option Lit) (ordered : Bool) (a b : List (List Lit)) (f : Cnf) → ordered ≡ false → f ≡ with_clauses f (given_clauses given (only_if ordered (a ++ b)))
tops_out given ordered a b f e = sym (ap (λ o. with_clauses f (given_clauses given (only_if o (a ++ b)))) e ∙ ap (with_clauses f) (sym (given_nothing given)) ∙ added_none f)

pub ruleset order_added = (tops_added, tops_out, given_stays, list_stays)

-- the sums of a distance
abbrev pub own_sum : Gap → Cnf → Cnf × List Lit
own_sum gap f = with_adder f gap.big.own (map negation gap.small.own)

abbrev pub other_sum : Gap → Cnf → Cnf × List Lit
other_sum gap f = with_adder f gap.small.other (map negation gap.big.other)

pub gap_made : (gap : Gap) (step rest : ℕ) (owns others remainder : List Lit) (f g h i j k m : Cnf) → g ≡ (own_sum gap f).0 → owns ≡ (own_sum gap f).1 → h ≡ (other_sum gap g).0 → others ≡ (other_sum gap g).1 →
    i ≡ (with_division h others step).formula → remainder ≡ (with_division h others step).remainder → j ≡ with_clauses i (given_clauses gap.given (same_digits owns others)) →
    k ≡ with_clauses j (given_clauses gap.given (rest_digits remainder rest)) → m ≡ with_clauses k (given_clauses gap.given (only_if gap.ordered (top_digit owns ++ top_digit others))) →
    m ≡ with_gap gap.given gap.ordered step rest (first_by gap.big) (first_by gap.small) f
gap_made gap step rest owns others remainder f g h i j k m eg eo eh et ei er ej ek em =
    let same : List (List Lit) = same_digits owns others in
    let digits : List (List Lit) = rest_digits remainder rest in
    let order : List (List Lit) = only_if gap.ordered (top_digit owns ++ top_digit others) in
    let said : List (List Lit) → List (List Lit) = given_clauses gap.given in
    let all : Cnf → List Lit → List Lit → List Lit → Cnf = λ q u v r. with_clauses q (given_clauses gap.given (same_digits u v ++ (rest_digits r rest ++ only_if gap.ordered (top_digit u ++ top_digit v)))) in
    let by_division : Cnf → List Lit → List Lit → Cnf = λ q u v. let d = with_division q v step in all d.formula u v d.remainder in
    let by_sum : Cnf → List Lit → Cnf = λ q u. let s = other_sum gap q in by_division s.0 u s.1 in
    em ∙ ap (λ (q : Cnf). with_clauses q (said order)) (ek ∙ ap (λ (q : Cnf). with_clauses q (said digits)) ej)
    ∙ ap (λ (q : Cnf). with_clauses q (said order)) (added_twice i (said same) (said digits))
    ∙ added_twice i (said same ++ said digits) (said order)
    ∙ ap (with_clauses i) (append_assoc (said same) (said digits) (said order) ∙ ap (λ (cs : List (List Lit)). said same ++ cs) (given_in_two gap.given digits order) ∙ given_in_two gap.given same (digits ++ order))
    ∙ ap (λ (q : Cnf). all q owns others remainder) ei
    ∙ ap (λ (r : List Lit). all (with_division h others step).formula owns others r) er
    ∙ ap (λ (v : List Lit). by_division h owns v) et
    ∙ ap (λ (q : Cnf). by_division q owns (other_sum gap g).1) eh
    ∙ ap (λ (q : Cnf). by_sum q owns) eg
    ∙ ap (λ (u : List Lit). by_sum (own_sum gap f).0 u) eo

-- there is room for each part
pub record GapRooms (gap : Gap) (step : ℕ) (f : Cnf) (most : ℕ) : Type 0 where
  pub owns : (own_sum gap f).0.vars ≤ most
  pub others : (other_sum gap (own_sum gap f).0).0.vars ≤ most
  pub division : (with_division (other_sum gap (own_sum gap f).0).0 (other_sum gap (own_sum gap f).0).1 step).formula.vars ≤ most

pub gap_rooms : (gap : Gap) (step rest : ℕ) (f : Cnf) (most : ℕ) → (with_gap gap.given gap.ordered step rest (first_by gap.big) (first_by gap.small) f).vars ≤ most → GapRooms gap step f most
gap_rooms gap step rest f most room =
    let u = own_sum gap f in
    let v = other_sum gap u.0 in
    let b = adder-grows u.0 gap.small.other (map negation gap.big.other) in
    let c = division-grows v.0 v.1 step in
    let whole : (with_division v.0 v.1 step).formula.vars ≤ most = room in
    record { owns = omega arith; others = omega arith; division = whole }

gap_grows : (given : Option Lit) (ordered : Bool) (step rest : ℕ) (big small : First) → Grows (with_gap given ordered step rest big small)
gap_grows given ordered step rest big small f =
    let u = with_adder f big.own (map negation small.own) in
    let v = with_adder u.0 small.other (map negation big.other) in
    let a = adder-grows f big.own (map negation small.own) in
    let b = adder-grows u.0 small.other (map negation big.other) in
    let c = division-grows v.0 v.1 step in
    omega arith

gap_of_grows : (given : Option Lit) (ordered : Bool) (step : ℕ) (big small : First) (b s : Option ℕ) → Grows (with_gap_of given ordered step big small b s)
gap_of_grows given ordered step big small None s f = omega arith
gap_of_grows given ordered step big small (Some b) None f = omega arith
gap_of_grows given ordered step big small (Some b) (Some s) f = gap_grows given ordered step (gap_rest step b s (length small.own)) big small f

related_grows : (given : Option Lit) (ordered : Bool) (big small : First) → Grows (with_related given ordered big small)
related_grows given ordered big small = when_grows (are_related big.step small.step) (with_gap_of given ordered (common_divisor big.step small.step) big small big.rest small.rest)
    (gap_of_grows given ordered (common_divisor big.step small.step) big small big.rest small.rest)

pub distance_grows : (count : Count) (given : Option Lit) (ordered : Bool) (right left : First) → Grows (with_distance count given ordered right left)
distance_grows Before given ordered right left = related_grows given ordered right left
distance_grows Behind given ordered right left = related_grows given ordered left right

-- where the steps are related
abbrev by_rests : Gap → Cnf → Cnf
by_rests gap = with_gap_of gap.given gap.ordered (common_divisor gap.big.step gap.small.step) (first_by gap.big) (first_by gap.small) gap.big.rest gap.small.rest

pub related_out : (gap : Gap) (f : Cnf) → are_related gap.big.step gap.small.step ≡ false → f ≡ related_step gap f
related_out gap f e = sym (ap (λ b. when b (by_rests gap) f) e)

pub related_none : (gap : Gap) (f : Cnf) → are_related gap.big.step gap.small.step ≡ true → gap.big.rest ≡ None → f ≡ related_step gap f
related_none gap f e none =
    sym (ap (λ b. when b (by_rests gap) f) e
    ∙ ap (λ (o : Option ℕ). with_gap_of gap.given gap.ordered (common_divisor gap.big.step gap.small.step) (first_by gap.big) (first_by gap.small) o gap.small.rest f) none)

pub related_less : (gap : Gap) (more : ℕ) (f : Cnf) → are_related gap.big.step gap.small.step ≡ true → gap.big.rest ≡ Some more → gap.small.rest ≡ None → f ≡ related_step gap f
related_less gap more f e some none =
    let by : Option ℕ → Option ℕ → Cnf = λ b s. with_gap_of gap.given gap.ordered (common_divisor gap.big.step gap.small.step) (first_by gap.big) (first_by gap.small) b s f in
    sym (ap (λ b. when b (by_rests gap) f) e ∙ ap (λ (o : Option ℕ). by o gap.small.rest) some ∙ ap (λ (o : Option ℕ). by (Some more) o) none)

pub related_is : (gap : Gap) (step more fewer rest : ℕ) (f : Cnf) → are_related gap.big.step gap.small.step ≡ true → gap.big.rest ≡ Some more → gap.small.rest ≡ Some fewer → step ≡ common_divisor gap.big.step gap.small.step →
    rest ≡ gap_rest step more fewer (length gap.small.own) → with_gap gap.given gap.ordered step rest (first_by gap.big) (first_by gap.small) f ≡ related_step gap f
related_is gap step more fewer rest f e some other es er =
    let by : Option ℕ → Option ℕ → Cnf = λ b s. with_gap_of gap.given gap.ordered (common_divisor gap.big.step gap.small.step) (first_by gap.big) (first_by gap.small) b s f in
    let made : ℕ → ℕ → Cnf = λ s r. with_gap gap.given gap.ordered s r (first_by gap.big) (first_by gap.small) f in
    ap (λ (r : ℕ). made step r) er ∙ ap (λ (s : ℕ). made s (gap_rest s more fewer (length gap.small.own))) es
    ∙ sym (ap (λ b. when b (by_rests gap) f) e ∙ ap (λ (o : Option ℕ). by o gap.small.rest) some ∙ ap (λ (o : Option ℕ). by (Some more) o) other)

-- the highest digit
pub top_more : (given : Option Lit) (l : Lit) (ls : List Lit) (f h : Cnf) → ls ≢ [] → h ≡ with_clauses f (given_clauses given (top_digit ls)) → h ≡ with_clauses f (given_clauses given (top_digit (l ∷ ls)))
top_more given l [] f h some e = absurd (some refl)
top_more given l (m ∷ ls) f h some e = e

pub top_none : (given : Option Lit) (f : Cnf) → f ≡ with_clauses f (given_clauses given (top_digit []))
top_none None f = sym (added_none f)
top_none (Some l) f = sym (added_none f)

pub some_below : (n : ℕ) (l : Lit) → IsTrue (is_below n l) → IsTrue (is_below n (negation l))
some_below n l h = is_below-negation n l h

pub first_below : (n : ℕ) (l : Lit) (ls : List Lit) → IsTrue (are_below n (l ∷ ls)) → IsTrue (is_below n l)
first_below n l ls h = first_in_range n l ls h

pub rest_below : (n : ℕ) (l : Lit) (ls : List Lit) → IsTrue (are_below n (l ∷ ls)) → IsTrue (are_below n ls)
rest_below n l ls h = rest_in_range n l ls h

pub ruleset tops_read = (top_more, top_none, one_below, pair_below, some_below, first_below, rest_below)
