-- What is asked is short.
use Rattle.std.proofs.Common.{Bool, List, Option, [], arith, false, length, map, mod-lt, negsuc, pos, refl, suc, true, zero, ℕ, ℤ, ◌%◌, ◌*◌, ◌++◌, ◌+◌, ◌-◌, ◌<◌, ◌∷◌, ◌≡◌, ◌≤◌}
use Rattle.std.proofs.lemmas.Bool.{leb-true}
use Rattle.std.specs.List.{AllByRecursion, cons_option, filter_map}
use Rattle.std.specs.Option.{option_map}
use Rattle.std.specs.Prelude.{None, Some, if◌then◌else◌, nat_le, unsigned_abs}
use Rattle.css_model.specs.Positions.Range.{IsInRange}
use Rattle.css_model.specs.declared.position.AnB.{AnB}
use Rattle.css_model.specs.declared.selector.Combinator.{Combinator}
use Rattle.css_model.specs.declared.selector.Simple.{Simple}
use Rattle.css_model.specs.declared.selector.Test.{Test}
use Rattle.css_model.specs.declared.selector.Test.TheVariants.{Any, Attr, Empty, Id, Kind, Nth, NthLast, OnlyChild, Root, State}
use Rattle.formula_laws.specs.Asked.{are_joined, aside, asked_rest, compound_rests, least_rest, position_rest, run_rests, test_rest}
use Rattle.formula_laws.specs.Path.{each_below, only_if}
use Rattle.formula_laws.specs.declared.count.Count.{Count}
use Rattle.formula_laws.specs.declared.count.Count.TheVariants.{Before, Behind}
use Rattle.grid_laws.specs.Solved.{nth_compound}
use Rattle.remainders.specs.Sizes.{IsShort}
use Rattle.remainders.specs.declared.remainder.Remainder.{Remainder}
use Rattle.selector_laws.specs.Limits.{KeepsCompound, KeepsTest}

-- a remainder, if there is one
abbrev pub ShortIfThere : Option Remainder → Type 0
ShortIfThere None = Unit {0}
ShortIfThere (Some r) = IsShort r

least_less : (step : ℕ) (b : ℤ) → 0 < step → least_rest step b < step
least_less step (pos k) some = mod-lt (k + (step - 1)) some
least_less step (negsuc k) some = mod-lt ((k + 2) * (step - 1)) some

pub position_short : (x : AnB) → IsInRange x → ShortIfThere (position_rest x)
position_short x h = by (nat_le 2 (unsigned_abs x.a)) (λ e. leb-true 2 (unsigned_abs x.a) e)
  where
    by : (b : Bool) → (b ≡ true → 2 ≤ unsigned_abs x.a) → ShortIfThere (if b then Some (record { step = unsigned_abs x.a; rest = least_rest (unsigned_abs x.a) x.b }) else None)
    by true some =
        let s = some refl in
        let small = h.0 in
        let less = least_less (unsigned_abs x.a) x.b (omega arith) in
        (omega arith, omega arith, omega arith)
    by false some = tt

test_short : (count : Count) (t : Test) → KeepsTest t → ShortIfThere (test_rest count t)
test_short Before (Nth x) h = position_short x h
test_short Before (NthLast x) h = tt
test_short Before OnlyChild h = tt
test_short Before Root h = tt
test_short Before Any h = tt
test_short Before (Kind v) h = tt
test_short Before (Id v) h = tt
test_short Before (Attr v) h = tt
test_short Before Empty h = tt
test_short Before (State v) h = tt
test_short Behind (Nth x) h = tt
test_short Behind (NthLast x) h = position_short x h
test_short Behind OnlyChild h = tt
test_short Behind Root h = tt
test_short Behind Any h = tt
test_short Behind (Kind v) h = tt
test_short Behind (Id v) h = tt
test_short Behind (Attr v) h = tt
test_short Behind Empty h = tt
test_short Behind (State v) h = tt

moved_short : (r : Remainder) (n : ℕ) → IsShort r → IsShort (record r { rest = n % r.step })
moved_short r n h = let a = h.0 in let b = h.1 in let less = mod-lt n h.0 in (omega arith, omega arith, omega arith)

aside_short : (count : Count) (right left : ℕ) (r : Remainder) → IsShort r → IsShort (aside count right left r)
aside_short Before right left r h = moved_short r (r.rest + right + left * (r.step - 1)) h
aside_short Behind right left r h = moved_short r (r.rest + left + right * (r.step - 1)) h

asked_short : (count : Count) (right : ℕ) (s : Simple) → KeepsTest s.test → ShortIfThere (asked_rest count right s)
asked_short count right s h = moved (if s.negated then None else test_rest count s.test) (unless s.negated)
  where
    moved : (o : Option Remainder) → ShortIfThere o → ShortIfThere (option_map (aside count right 0) o)
    moved None short = tt
    moved (Some r) short = aside_short count right 0 r short

    unless : (b : Bool) → ShortIfThere (if b then None else test_rest count s.test)
    unless true = tt
    unless false = test_short count s.test h

simples_short : (count : Count) (right : ℕ) (ss : List Simple) → AllByRecursion (λ s. KeepsTest s.test) ss → AllByRecursion IsShort (filter_map (asked_rest count right) ss)
simples_short count right [] h = tt
simples_short count right (s ∷ ss) h = both (asked_rest count right s) (filter_map (asked_rest count right) ss) (asked_short count right s h.0) (simples_short count right ss h.1)
  where
    both : (o : Option Remainder) (rs : List Remainder) → ShortIfThere o → AllByRecursion IsShort rs → AllByRecursion IsShort (cons_option o rs)
    both None rs short more = more
    both (Some r) rs short more = (short, more)

-- the tests of each compound keep to the limits
pub compound_keeps : (chain : List (List Simple)) → AllByRecursion KeepsCompound chain → (q : ℕ) → AllByRecursion (λ s. KeepsTest s.test) (nth_compound chain q)
compound_keeps [] h q = tt
compound_keeps (c ∷ cs) h zero = (h.0).tests
compound_keeps (c ∷ cs) h (suc q) = compound_keeps cs h.1 q

pub all_short : (xs ys : List Remainder) → AllByRecursion IsShort xs → AllByRecursion IsShort ys → AllByRecursion IsShort (xs ++ ys)
all_short [] ys hx hy = hy
all_short (x ∷ xs) ys hx hy = (hx.0, all_short xs ys hx.1 hy)

compound_short : (count : Count) (links : List Combinator) (chain : List (List Simple)) (p q : ℕ) → AllByRecursion KeepsCompound chain → AllByRecursion IsShort (compound_rests count links chain p q)
compound_short count links chain p q h = by (are_joined links p q)
  where
    by : (b : Bool) → AllByRecursion IsShort (only_if b (filter_map (asked_rest count (q - p)) (nth_compound chain q)))
    by true = simples_short count (q - p) (nth_compound chain q) (compound_keeps chain h q)
    by false = tt

-- all that a run asks is short
pub run_short : (count : Count) (links : List Combinator) (chain : List (List Simple)) (p : ℕ) → AllByRecursion KeepsCompound chain → AllByRecursion IsShort (run_rests count links chain p)
run_short count links chain p h = each (suc (length links))
  where
    each : (n : ℕ) → AllByRecursion IsShort (each_below n (compound_rests count links chain p))
    each zero = tt
    each (suc n) = all_short (each_below n (compound_rests count links chain p)) (compound_rests count links chain p n) (each n) (compound_short count links chain p n h)

-- and so is what two runs ask together
pub aside_all_short : (count : Count) (right left : ℕ) (rs : List Remainder) → AllByRecursion IsShort rs → AllByRecursion IsShort (map (aside count right left) rs)
aside_all_short count right left [] h = tt
aside_all_short count right left (r ∷ rs) h = (aside_short count right left r h.0, aside_all_short count right left rs h.1)
