-- No part of the formula takes variables away.
use Rattle.std.proofs.Common.{Bool, List, arith, inl, inr, ◌⊎◌, ◌≡◌, ◌^◌, ◌++◌, false, negsuc, pos, suc, true, zero, ℕ, ℤ, [], ◌∷◌, ◌+◌, ◌≤◌, length, map}
use Rattle.cnf.proofs.ForCallers.{adder-grows, and_gate-grows, at_least-grows, division-grows, false-grows}
use Rattle.cnf.specs.Cnf.{Cnf}
use Rattle.cnf.specs.Gates.{with_and_gate}
use Rattle.cnf.specs.Lits.{negation}
use Rattle.cnf.specs.Numbers.{with_at_least, with_division}
use Rattle.cnf.specs.Sums.{with_adder}
use Rattle.cnf.specs.declared.lit.Lit.{Lit}
use Rattle.css_model.specs.declared.selector.Combinator.{Combinator}
use Rattle.css_model.specs.declared.selector.Combinator.TheVariants.{Child, Inside, Later, Next}
use Rattle.css_model.specs.declared.selector.Simple.{Simple}
use Rattle.css_model.specs.declared.selector.Test.{Test}
use Rattle.css_model.specs.declared.selector.Test.TheVariants.{Any, Attr, Empty, Id, Kind, Nth, NthLast, OnlyChild, Root, State}
use Rattle.formula_laws.specs.Counts.{steps_below, when, with_equal_sums, with_link, with_run}
use Rattle.formula_laws.specs.Positions.{with_exact, with_falling, with_nth, with_positions, with_rising, with_test}
use Rattle.formula_laws.specs.Relations.{with_less, with_sum}

-- a part takes none away
abbrev pub Grows : (Cnf → Cnf) → Type 0
Grows step = (f : Cnf) → f.vars ≤ (step f).vars

pub sum_grows : (x y z : List Lit) (f : Cnf) → f.vars ≤ (with_sum x y z f).vars
sum_grows x y z f = adder-grows f x y

pub less_grows : (unless x y : List Lit) (f : Cnf) → f.vars ≤ (with_less unless x y f).vars
less_grows unless x y f = let sum = with_adder f y (map negation x) in let a = adder-grows f y (map negation x) in let b = at_least-grows sum.0 sum.1 (2 ^ length x) in omega arith

pub equal_sums_grows : (x y z u : List Lit) (f : Cnf) → f.vars ≤ (with_equal_sums x y z u f).vars
equal_sums_grows x y z u f = let sum = with_adder f x y in let a = adder-grows f x y in let b = adder-grows sum.0 z u in omega arith

pub link_grows : (link : Combinator) (b b' a a' : List Lit) (one : Lit) (f : Cnf) → f.vars ≤ (with_link link b b' a a' one f).vars
link_grows Inside b b' a a' one f = omega arith
link_grows Child b b' a a' one f = omega arith
link_grows Next b b' a a' one f = let s = sum_grows b' (one ∷ []) b f in let t = sum_grows a (one ∷ []) a' (with_sum b' (one ∷ []) b f) in omega arith
link_grows Later b b' a a' one f = let s = less_grows [] b' b f in let t = equal_sums_grows b' a' b a (with_less [] b' b f) in omega arith

pub run_grows : (links : List Combinator) (b a : ℕ → List Lit) (one : Lit) (f : Cnf) → f.vars ≤ (with_run links b a one f).vars
run_grows [] b a one f = omega arith
run_grows (link ∷ links) b a one f =
    let l = link_grows link (b 0) (b 1) (a 0) (a 1) one f in
    let r = run_grows links (λ i. b (suc i)) (λ i. a (suc i)) one (with_link link (b 0) (b 1) (a 0) (a 1) one f) in omega arith

pub when_grows : (b : Bool) (step : Cnf → Cnf) → Grows step → Grows (when b step)
when_grows true step g f = g f
when_grows false step g f = omega arith

pub steps_grow : (n : ℕ) (step : ℕ → Cnf → Cnf) → ((k : ℕ) → Grows (step k)) → Grows (steps_below n step)
steps_grow zero step g f = omega arith
steps_grow (suc n) step g f = let a = steps_grow n step g f in let b = g n (steps_below n step f) in omega arith

-- the first of more steps
pub steps_first : (k n : ℕ) (step : ℕ → Cnf → Cnf) → ((k : ℕ) → Grows (step k)) → k ≤ n → (f : Cnf) → (steps_below k step f).vars ≤ (steps_below n step f).vars
steps_first k zero step g h f = (let e : k ≡ 0 = omega arith in rw e (let z : (steps_below 0 step f).vars ≤ (steps_below 0 step f).vars = omega arith in z))
steps_first k (suc n) step g h f = split (last k n h) (λ less. steps_first k n step g less f)
  where
    last : (k n : ℕ) → k ≤ suc n → (k ≤ n) ⊎ (k ≡ suc n)
    last k n h = grind arith

    split : (k ≤ n) ⊎ (k ≡ suc n) → (k ≤ n → (steps_below k step f).vars ≤ (steps_below n step f).vars) → (steps_below k step f).vars ≤ (steps_below (suc n) step f).vars
    split (inl less) rest = let a = rest less in let b = g n (steps_below n step f) in omega arith
    split (inr e) rest = rw e (let z : (steps_below (suc n) step f).vars ≤ (steps_below (suc n) step f).vars = omega arith in z)

pub rising_grows : (step rest low : ℕ) (n : List Lit) (f : Cnf) → f.vars ≤ (with_rising step rest low n f).0.vars
unfolding with_rising
rising_grows step rest low n f =
    let d = with_division f n step in
    let a = with_at_least d.formula n low in
    let b = with_at_least a.0 d.remainder rest in
    let c = with_at_least b.0 d.remainder (rest + 1) in
    let gd = division-grows f n step in let ga = at_least-grows d.formula n low in let gb = at_least-grows a.0 d.remainder rest in let gc = at_least-grows b.0 d.remainder (rest + 1) in
    let gg = and_gate-grows c.0 (a.1 ∷ b.1 ∷ negation c.1 ∷ []) in omega arith

pub falling_grows : (step rest high : ℕ) (n : List Lit) (f : Cnf) → f.vars ≤ (with_falling step rest high n f).0.vars
unfolding with_falling
falling_grows step rest high n f =
    let d = with_division f n step in
    let a = with_at_least d.formula n high in
    let b = with_at_least a.0 d.remainder rest in
    let c = with_at_least b.0 d.remainder (rest + 1) in
    let gd = division-grows f n step in let ga = at_least-grows d.formula n high in let gb = at_least-grows a.0 d.remainder rest in let gc = at_least-grows b.0 d.remainder (rest + 1) in
    let gg = and_gate-grows c.0 (negation a.1 ∷ b.1 ∷ negation c.1 ∷ []) in omega arith

pub exact_grows : (c : ℕ) (n : List Lit) (f : Cnf) → f.vars ≤ (with_exact c n f).0.vars
unfolding with_exact
exact_grows c n f =
    let a = with_at_least f n c in
    let b = with_at_least a.0 n (c + 1) in
    let ga = at_least-grows f n c in let gb = at_least-grows a.0 n (c + 1) in
    let gg = and_gate-grows b.0 (a.1 ∷ negation b.1 ∷ []) in omega arith

pub nth_grows : (a b : ℤ) (n : List Lit) (f : Cnf) → f.vars ≤ (with_nth a b n f).0.vars
nth_grows (pos zero) (pos zero) n f = let g = false-grows f in omega arith
nth_grows (pos zero) (pos (suc c)) n f = exact_grows c n f
nth_grows (pos zero) (negsuc k) n f = let g = false-grows f in omega arith
nth_grows (pos (suc s)) (pos k) n f = rising_grows (suc s) _ _ n f
nth_grows (pos (suc s)) (negsuc k) n f = rising_grows (suc s) _ _ n f
nth_grows (negsuc s) (pos k) n f = falling_grows (suc s) _ _ n f
nth_grows (negsuc s) (negsuc k) n f = let g = false-grows f in omega arith

pub test_grows : (last negated : Bool) (r child : Lit) (b a : List Lit) (t : Test) (f : Cnf) → f.vars ≤ (with_test last negated r child b a t f).vars
test_grows last negated r child b a (Nth x) f = nth_grows x.a x.b b f
test_grows last negated r child b a (NthLast x) f = nth_grows x.a x.b a f
test_grows last negated r child b a OnlyChild f = let g = and_gate-grows f (map negation b ++ map negation a) in omega arith
test_grows last negated r child b a Root f = omega arith
test_grows last negated r child b a Any f = omega arith
test_grows last negated r child b a (Kind x) f = omega arith
test_grows last negated r child b a (Id x) f = omega arith
test_grows last negated r child b a (Attr x) f = omega arith
test_grows last negated r child b a Empty f = omega arith
test_grows last negated r child b a (State x) f = omega arith

pub positions_grow : (last : Bool) (r child : Lit) (b a : List Lit) (ss : List Simple) (f : Cnf) → f.vars ≤ (with_positions last r child b a ss f).vars
positions_grow last r child b a [] f = omega arith
positions_grow last r child b a (s ∷ ss) f =
    let t = test_grows last s.negated r child b a s.test f in
    let p = positions_grow last r child b a ss (with_test last s.negated r child b a s.test f) in omega arith

-- the gates of cnf
pub adder_grows : (f : Cnf) (x y : List Lit) → f.vars ≤ (with_adder f x y).0.vars
adder_grows f x y = adder-grows f x y

pub at_least_grows : (f : Cnf) (x : List Lit) (bound : ℕ) → f.vars ≤ (with_at_least f x bound).0.vars
at_least_grows f x bound = at_least-grows f x bound

pub division_grows : (f : Cnf) (x : List Lit) (by : ℕ) → f.vars ≤ (with_division f x by).formula.vars
division_grows f x by = division-grows f x by

pub and_gate_grows : (f : Cnf) (ls : List Lit) → (with_and_gate f ls).0.vars ≡ f.vars + 1
and_gate_grows f ls = and_gate-grows f ls

pub ruleset gates_grow = (adder_grows, at_least_grows, division_grows, and_gate_grows)
