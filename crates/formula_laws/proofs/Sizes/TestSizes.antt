-- The sizes of tests of positions.
use Rattle.std.proofs.Common.{Bool, List, [], ap, arith, false, length, map, negsuc, pos, refl, suc, true, zero, ℕ, ℤ, ◌%◌, ◌*◌, ◌++◌, ◌+◌, ◌-◌, ◌∷◌, ◌≡◌, ◌≤◌}
use Rattle.std.proofs.Math.Nat.{mul-le-mul_right}
use Rattle.std.proofs.lemmas.List.{length-append}
use Rattle.formula_laws.proofs.Sizes.Sizes.{Sized, clauses_size, more_size}
use Rattle.formula_laws.specs.Positions.{is_root_clauses, test_clauses, with_exact, with_falling, with_nth, with_positions, with_rising, with_test, with_tested, with_zeros}
use Rattle.cnf.proofs.ForCallers.{and_gate-size, at_least-size, division-size, length-remainder}
use Rattle.cnf.specs.Cnf.{Cnf}
use Rattle.cnf.specs.Gates.{GrowsBy, with_false}
use Rattle.cnf.specs.Lits.{negation, positive}
use Rattle.cnf.specs.Numbers.{remainder_digits, with_at_least, with_division}
use Rattle.cnf.specs.declared.lit.Lit.{Lit}
use Rattle.css_model.specs.declared.selector.Simple.{Simple}
use Rattle.css_model.specs.declared.selector.Test.{Test}
use Rattle.css_model.specs.declared.selector.Test.TheVariants.{Any, Attr, Empty, Id, Kind, Nth, NthLast, OnlyChild, Root, State}

pub digits_at_most : (by : ℕ) → remainder_digits by ≤ 32
unfolding remainder_digits
digits_at_most by = omega arith

pub product_at_most : (a b c d : ℕ) → a ≤ c → b ≤ d → a * b ≤ c * d
product_at_most a b c d h k =
    let one : a * b ≤ c * b = mul-le-mul_right b h in
    let two : b * c ≤ d * c = mul-le-mul_right c k in
    let e : c * b ≡ b * c = grind arith in
    let e' : c * d ≡ d * c = grind arith in
    omega arith

rising_size : (w step rest low : ℕ) (n : List Lit) → length n ≤ w → (f : Cnf) → GrowsBy f (with_rising step rest low n f).0 (99 * w + 68) (743 * w + 199)
unfolding with_rising
rising_size w step rest low n h f =
    let d = with_division f n step in
    let sd = division-size f n step in
    let rd = digits_at_most step in
    let pv = product_at_most (3 * remainder_digits step + 2) (length n) 98 w (omega arith) h in
    let pc = product_at_most (23 * remainder_digits step + 4) (length n) 740 w (omega arith) h in
    let rl = length-remainder f n step in
    let a = with_at_least d.formula n low in
    let sa = at_least-size d.formula n low in
    let b = with_at_least a.0 d.remainder rest in
    let sb = at_least-size a.0 d.remainder rest in
    let c = with_at_least b.0 d.remainder (rest + 1) in
    let sc = at_least-size b.0 d.remainder (rest + 1) in
    let sg = and_gate-size c.0 (a.1 ∷ b.1 ∷ negation c.1 ∷ []) in
    record {
      vars_bound = let x0 = sd.vars_bound in let x1 = sa.vars_bound in let x2 = sb.vars_bound in let x3 = sc.vars_bound in let x4 = sg.vars_bound in omega arith;
      clauses_bound = let x0 = sd.clauses_bound in let x1 = sa.clauses_bound in let x2 = sb.clauses_bound in let x3 = sc.clauses_bound in let x4 = sg.clauses_bound in omega arith;
    }

falling_size : (w step rest high : ℕ) (n : List Lit) → length n ≤ w → (f : Cnf) → GrowsBy f (with_falling step rest high n f).0 (99 * w + 68) (743 * w + 199)
unfolding with_falling
falling_size w step rest high n h f =
    let d = with_division f n step in
    let sd = division-size f n step in
    let rd = digits_at_most step in
    let pv = product_at_most (3 * remainder_digits step + 2) (length n) 98 w (omega arith) h in
    let pc = product_at_most (23 * remainder_digits step + 4) (length n) 740 w (omega arith) h in
    let rl = length-remainder f n step in
    let a = with_at_least d.formula n high in
    let sa = at_least-size d.formula n high in
    let b = with_at_least a.0 d.remainder rest in
    let sb = at_least-size a.0 d.remainder rest in
    let c = with_at_least b.0 d.remainder (rest + 1) in
    let sc = at_least-size b.0 d.remainder (rest + 1) in
    let sg = and_gate-size c.0 (negation a.1 ∷ b.1 ∷ negation c.1 ∷ []) in
    record {
      vars_bound = let x0 = sd.vars_bound in let x1 = sa.vars_bound in let x2 = sb.vars_bound in let x3 = sc.vars_bound in let x4 = sg.vars_bound in omega arith;
      clauses_bound = let x0 = sd.clauses_bound in let x1 = sa.clauses_bound in let x2 = sb.clauses_bound in let x3 = sc.clauses_bound in let x4 = sg.clauses_bound in omega arith;
    }

exact_size : (w c : ℕ) (n : List Lit) → length n ≤ w → (f : Cnf) → GrowsBy f (with_exact c n f).0 (99 * w + 68) (743 * w + 199)
unfolding with_exact
exact_size w c n h f =
    let a = with_at_least f n c in
    let sa = at_least-size f n c in
    let b = with_at_least a.0 n (c + 1) in
    let sb = at_least-size a.0 n (c + 1) in
    let sg = and_gate-size b.0 (a.1 ∷ negation b.1 ∷ []) in
    record {
      vars_bound = let x1 = sa.vars_bound in let x2 = sb.vars_bound in let x4 = sg.vars_bound in omega arith;
      clauses_bound = let x1 = sa.clauses_bound in let x2 = sb.clauses_bound in let x4 = sg.clauses_bound in omega arith;
    }

false_size : (w : ℕ) (f : Cnf) → GrowsBy f (with_false f).0 (99 * w + 68) (743 * w + 199)
unfolding with_false
false_size w f = record { vars_bound = omega arith; clauses_bound = let l = length-append f.clauses ((negation (positive f.vars) ∷ []) ∷ []) in omega arith }

nth_size : (w : ℕ) (a b : ℤ) (n : List Lit) → length n ≤ w → (f : Cnf) → GrowsBy f (with_nth a b n f).0 (99 * w + 68) (743 * w + 199)
nth_size w (pos zero) (pos zero) n h f = false_size w f
nth_size w (pos zero) (pos (suc c)) n h f = exact_size w c n h f
nth_size w (pos zero) (negsuc k) n h f = false_size w f
nth_size w (pos (suc s)) (pos k) n h f = rising_size w (suc s) ((k + s) % suc s) (k - 1) n h f
nth_size w (pos (suc s)) (negsuc k) n h f = rising_size w (suc s) (((k + 2) * s) % suc s) 0 n h f
nth_size w (negsuc s) (pos k) n h f = falling_size w (suc s) ((k + s) % suc s) k n h f
nth_size w (negsuc s) (negsuc k) n h f = false_size w f

length-negated : (xs : List Lit) → length (map negation xs) ≡ length xs
length-negated [] = refl
length-negated (x ∷ xs) = ap suc (length-negated xs)

zeros_size : (w : ℕ) (b a : List Lit) → length b ≤ w → length a ≤ w → (f : Cnf) → GrowsBy f (with_zeros b a f).0 (99 * w + 68) (743 * w + 199)
zeros_size w b a hb ha f =
    let s = and_gate-size f (map negation b ++ map negation a) in
    let l = length-append (map negation b) (map negation a) in
    let lb = length-negated b in
    let la = length-negated a in
    record { vars_bound = let x = s.vars_bound in omega arith; clauses_bound = let x = s.clauses_bound in omega arith }

two_clauses : (last negated : Bool) (r child g : Lit) → length (test_clauses last negated r child g) ≤ 2
two_clauses true false r child g = omega arith
two_clauses true true r child g = omega arith
two_clauses false false r child g = omega arith
two_clauses false true r child g = omega arith

one_clause : (last negated : Bool) (r : Lit) → length (is_root_clauses last negated r) ≤ 1
one_clause true false r = omega arith
one_clause true true r = omega arith
one_clause false false r = omega arith
one_clause false true r = omega arith

tested_size : (last negated : Bool) (r child : Lit) (gate : Cnf → Cnf × Lit) (v c : ℕ) → ((f : Cnf) → GrowsBy f (gate f).0 v c) → Sized (λ f. with_tested last negated r child gate f) v (c + 2)
tested_size last negated r child gate v c g f =
    let s = g f in
    let l = length-append (gate f).0.clauses (test_clauses last negated r child (gate f).1) in
    let t = two_clauses last negated r child (gate f).1 in
    record { vars_bound = s.vars_bound; clauses_bound = let x = s.clauses_bound in omega arith }

test_size : (w : ℕ) (last negated : Bool) (r child : Lit) (b a : List Lit) (t : Test) → length b ≤ w → length a ≤ w → Sized (λ f. with_test last negated r child b a t f) (99 * w + 68) (743 * w + 199 + 2)
test_size w last negated r child b a (Nth x) hb ha = tested_size last negated r child (with_nth x.a x.b b) (99 * w + 68) (743 * w + 199) (nth_size w x.a x.b b hb)
test_size w last negated r child b a (NthLast x) hb ha = tested_size last negated r child (with_nth x.a x.b a) (99 * w + 68) (743 * w + 199) (nth_size w x.a x.b a ha)
test_size w last negated r child b a OnlyChild hb ha = tested_size last negated r child (with_zeros b a) (99 * w + 68) (743 * w + 199) (zeros_size w b a hb ha)
test_size w last negated r child b a Root hb ha = more_size _ 0 1 (99 * w + 68) (743 * w + 199 + 2) (omega arith) (omega arith) (clauses_size (is_root_clauses last negated r) 1 (one_clause last negated r))
test_size w last negated r child b a Any hb ha = nothing w
  where
    nothing : (w : ℕ) → Sized (λ f. f) (99 * w + 68) (743 * w + 199 + 2)
    nothing w f = record { vars_bound = omega arith; clauses_bound = omega arith }
test_size w last negated r child b a (Kind name) hb ha = λ f. record { vars_bound = omega arith; clauses_bound = omega arith }
test_size w last negated r child b a (Id name) hb ha = λ f. record { vars_bound = omega arith; clauses_bound = omega arith }
test_size w last negated r child b a (Attr test) hb ha = λ f. record { vars_bound = omega arith; clauses_bound = omega arith }
test_size w last negated r child b a Empty hb ha = λ f. record { vars_bound = omega arith; clauses_bound = omega arith }
test_size w last negated r child b a (State flag) hb ha = λ f. record { vars_bound = omega arith; clauses_bound = omega arith }

pub compound_size : (w : ℕ) (last : Bool) (r child : Lit) (b a : List Lit) (ss : List Simple) → length b ≤ w → length a ≤ w → Sized (λ f. with_positions last r child b a ss f) (length ss * (99 * w + 68)) (length ss * (743 * w + 199 + 2))
compound_size w last r child b a [] hb ha f = record { vars_bound = omega arith; clauses_bound = omega arith }
compound_size w last r child b a (s ∷ ss) hb ha f =
    let g = with_test last s.negated r child b a s.test f in
    let h = with_positions last r child b a ss g in
    step f g h (length ss) (99 * w + 68) (743 * w + 199 + 2) (test_size w last s.negated r child b a s.test hb ha f) (compound_size w last r child b a ss hb ha g)
  where
    step : (f g h : Cnf) (n v c : ℕ) → GrowsBy f g v c → GrowsBy g h (n * v) (n * c) → GrowsBy f h (suc n * v) (suc n * c)
    step f g h n v c s t = record { vars_bound = let a = s.vars_bound in let b = t.vars_bound in omega arith; clauses_bound = let a = s.clauses_bound in let b = t.clauses_bound in omega arith }
