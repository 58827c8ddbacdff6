-- How far the parts let a formula grow.
use Rattle.std.proofs.Common.{Bool, List, [], ap, arith, false, length, map, max, refl, suc, true, zero, ℕ, ◌*◌, ◌+◌, ◌<◌, ◌^◌, ◌∷◌, ◌≡◌, ◌≤◌}
use Rattle.std.proofs.Math.Nat.{mul-le-mul_right}
use Rattle.std.proofs.lemmas.List.{length-append}
use Rattle.formula_laws.specs.Counts.{implied, steps_below, when, with_equal_sums, with_link, with_run}
use Rattle.formula_laws.specs.Path.{each_below, only_if}
use Rattle.formula_laws.specs.Relations.{same_digits, with_less, with_sum}
use Rattle.cnf.proofs.ForCallers.{GrowsBy-more, GrowsBy-trans, adder-size, at_least-size, length-adder}
use Rattle.cnf.specs.Cnf.{Cnf}
use Rattle.cnf.specs.Gates.{GrowsBy, with_clauses}
use Rattle.cnf.specs.Lits.{negation}
use Rattle.cnf.specs.Numbers.{with_at_least}
use Rattle.cnf.specs.Sums.{with_adder}
use Rattle.cnf.specs.declared.lit.Lit.{Lit}
use Rattle.css_model.specs.declared.selector.Combinator.{Combinator}
use Rattle.css_model.specs.declared.selector.Combinator.TheVariants.{Child, Inside, Later, Next}

abbrev pub Sized : (Cnf → Cnf) → ℕ → ℕ → Type 0
Sized step v c = (f : Cnf) → GrowsBy f (step f) v c

same_size : (f : Cnf) (v c : ℕ) → GrowsBy f f v c
same_size f v c = record { vars_bound = omega arith; clauses_bound = omega arith }

no_size : (v c : ℕ) → Sized (λ f. f) v c
no_size v c f = same_size f v c

pub both_size : (s t : Cnf → Cnf) (v c v' c' : ℕ) → Sized s v c → Sized t v' c' → Sized (λ f. t (s f)) (v + v') (c + c')
both_size s t v c v' c' a b f = GrowsBy-trans f (s f) (t (s f)) v c v' c' (a f) (b (s f))

pub more_size : (s : Cnf → Cnf) (v c v' c' : ℕ) → v ≤ v' → c ≤ c' → Sized s v c → Sized s v' c'
more_size s v c v' c' hv hc a f = GrowsBy-more f (s f) v c v' c' hv hc (a f)

pub when_size : (b : Bool) (s : Cnf → Cnf) (v c : ℕ) → Sized s v c → Sized (λ f. when b s f) v c
when_size true s v c a f = a f
when_size false s v c a f = same_size f v c

pub below_size : (n : ℕ) (step : ℕ → Cnf → Cnf) (v c : ℕ) → ((k : ℕ) → k < n → Sized (step k) v c) → Sized (λ f. steps_below n step f) (n * v) (n * c)
below_size zero step v c each f = same_size f (0 * v) (0 * c)
below_size (suc n) step v c each f =
    let old = below_size n step v c (λ k less. each k (omega arith)) f in
    let new = each n (omega arith) (steps_below n step f) in
    record { vars_bound = let a = old.vars_bound in let b = new.vars_bound in omega arith; clauses_bound = let a = old.clauses_bound in let b = new.clauses_bound in omega arith }

pub clauses_size : (cs : List (List Lit)) (c : ℕ) → length cs ≤ c → Sized (λ f. with_clauses f cs) 0 c
clauses_size cs c h f = record { vars_bound = omega arith; clauses_bound = let l = length-append f.clauses cs in omega arith }

pub each_size : (n : ℕ) (make : ℕ → List (List Lit)) (c : ℕ) → ((k : ℕ) → length (make k) ≤ c) → length (each_below n make) ≤ n * c
each_size zero make c each = omega arith
each_size (suc n) make c each = let l = length-append (each_below n make) (make n) in let old = each_size n make c each in let new = each n in omega arith

pub implied_size : (l : Lit) (cs : List (List Lit)) → length (implied l cs) ≡ length cs
implied_size l [] = refl
implied_size l (c ∷ cs) = ap suc (implied_size l cs)

pub digits_size : (xs ys : List Lit) → length (same_digits xs ys) ≤ 2 * length xs
digits_size [] ys = omega arith
digits_size (x ∷ xs) [] = let h = digits_size xs [] in omega arith
digits_size (x ∷ xs) (y ∷ ys) = let h = digits_size xs ys in omega arith

length-negations : (xs : List Lit) → length (map negation xs) ≡ length xs
length-negations [] = refl
length-negations (x ∷ xs) = ap suc (length-negations xs)

sum_size : (w : ℕ) (x y z : List Lit) → length x ≤ w + 1 → length y ≤ w + 1 → Sized (with_sum x y z) (2 * w + 3) (22 * w + 25)
sum_size w x y z hx hy f =
    let a = adder-size f x y in
    let l = length-adder f x y in
    let sum = with_adder f x y in
    let d = digits_size sum.1 z in
    let n = length-append sum.0.clauses (same_digits sum.1 z) in
    let top : max (length x) (length y) ≤ w + 1 = omega arith in
    record { vars_bound = let b = a.vars_bound in omega arith; clauses_bound = let b = a.clauses_bound in omega arith }

pub less_size : (w : ℕ) (unless x y : List Lit) → length x ≤ w → length y ≤ w → Sized (with_less unless x y) (3 * w + 3) (23 * w + 6)
less_size w unless x y hx hy f =
    let a = adder-size f y (map negation x) in
    let l = length-adder f y (map negation x) in
    let e = length-negations x in
    let sum = with_adder f y (map negation x) in
    let g = at_least-size sum.0 sum.1 (2 ^ length x) in
    let top = with_at_least sum.0 sum.1 (2 ^ length x) in
    let n = length-append top.0.clauses ((top.1 ∷ unless) ∷ []) in
    let most : max (length y) (length (map negation x)) ≤ w = omega arith in
    record { vars_bound = let b = a.vars_bound in let b' = g.vars_bound in omega arith; clauses_bound = let b = a.clauses_bound in let b' = g.clauses_bound in omega arith }

equal_sums_size : (w : ℕ) (x y z u : List Lit) → length x ≤ w → length y ≤ w → length z ≤ w → length u ≤ w → Sized (with_equal_sums x y z u) (4 * w + 2) (42 * w + 4)
equal_sums_size w x y z u hx hy hz hu f =
    let a = adder-size f x y in
    let s = with_adder f x y in
    let l = length-adder f x y in
    let b = adder-size s.0 z u in
    let t = with_adder s.0 z u in
    let d = digits_size s.1 t.1 in
    let n = length-append t.0.clauses (same_digits s.1 t.1) in
    let most : max (length x) (length y) ≤ w = omega arith in
    let most' : max (length z) (length u) ≤ w = omega arith in
    record { vars_bound = let c = a.vars_bound in let c' = b.vars_bound in omega arith; clauses_bound = let c = a.clauses_bound in let c' = b.clauses_bound in omega arith }

link_size : (w : ℕ) (link : Combinator) (b b' a a' : List Lit) (one : Lit) → length b ≤ w → length b' ≤ w → length a ≤ w → length a' ≤ w → Sized (λ f. with_link link b b' a a' one f) (7 * w + 6) (65 * w + 50)
link_size w Inside b b' a a' one hb hb' ha ha' f = same_size f (7 * w + 6) (65 * w + 50)
link_size w Child b b' a a' one hb hb' ha ha' f = same_size f (7 * w + 6) (65 * w + 50)
link_size w Next b b' a a' one hb hb' ha ha' f =
    let s = sum_size w b' (one ∷ []) b (omega arith) (omega arith) f in
    let t = sum_size w a (one ∷ []) a' (omega arith) (omega arith) (with_sum b' (one ∷ []) b f) in
    record { vars_bound = let c = s.vars_bound in let c' = t.vars_bound in omega arith; clauses_bound = let c = s.clauses_bound in let c' = t.clauses_bound in omega arith }
link_size w Later b b' a a' one hb hb' ha ha' f =
    let s = less_size w [] b' b hb' hb f in
    let t = equal_sums_size w b' a' b a hb' ha' hb ha (with_less [] b' b f) in
    record { vars_bound = let c = s.vars_bound in let c' = t.vars_bound in omega arith; clauses_bound = let c = s.clauses_bound in let c' = t.clauses_bound in omega arith }

pub run_size : (w : ℕ) (links : List Combinator) (b a : ℕ → List Lit) (one : Lit) → ((i : ℕ) → i ≤ length links → length (b i) ≤ w) → ((i : ℕ) → i ≤ length links → length (a i) ≤ w) → Sized (λ f. with_run links b a one f) (length links * (7 * w + 6)) (length links * (65 * w + 50))
run_size w [] b a one hb ha f = same_size f (0 * (7 * w + 6)) (0 * (65 * w + 50))
run_size w (link ∷ links) b a one hb ha f =
    let s = link_size w link (b 0) (b 1) (a 0) (a 1) one (hb 0 (omega arith)) (hb 1 (omega arith)) (ha 0 (omega arith)) (ha 1 (omega arith)) f in
    let t = run_size w links (λ i. b (suc i)) (λ i. a (suc i)) one (λ i h. hb (suc i) (omega arith)) (λ i h. ha (suc i) (omega arith)) (with_link link (b 0) (b 1) (a 0) (a 1) one f) in
    step f (with_link link (b 0) (b 1) (a 0) (a 1) one f) (with_run links (λ i. b (suc i)) (λ i. a (suc i)) one (with_link link (b 0) (b 1) (a 0) (a 1) one f)) (length links) (7 * w + 6) (65 * w + 50) s t
  where
    step : (f g h : Cnf) (n v c : ℕ) → GrowsBy f g v c → GrowsBy g h (n * v) (n * c) → GrowsBy f h (suc n * v) (suc n * c)
    step f g h n v c s t = record { vars_bound = let a = s.vars_bound in let b = t.vars_bound in omega arith; clauses_bound = let a = s.clauses_bound in let b = t.clauses_bound in omega arith }

-- no more than so many parts
pub most_size : (b n : ℕ) (step : ℕ → Cnf → Cnf) (v c : ℕ) → n ≤ b → ((k : ℕ) → k < n → Sized (step k) v c) → Sized (λ f. steps_below n step f) (b * v) (b * c)
most_size b n step v c h each = more_size (λ f. steps_below n step f) (n * v) (n * c) (b * v) (b * c) (mul-le-mul_right v h) (mul-le-mul_right c h) (below_size n step v c each)

pub most_each : (b n : ℕ) (make : ℕ → List (List Lit)) (c : ℕ) → n ≤ b → ((k : ℕ) → length (make k) ≤ c) → length (each_below n make) ≤ b * c
most_each b n make c h each = let l = each_size n make c each in let m = mul-le-mul_right c h in omega arith

pub only_size : (b : Bool) (cs : List (List Lit)) → length (only_if b cs) ≤ length cs
only_size true cs = omega arith
only_size false cs = omega arith
