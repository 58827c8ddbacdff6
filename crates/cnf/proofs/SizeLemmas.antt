-- How many variables and clauses the gates add at most.
use Rattle.std.proofs.Common.{◌≡◌, ◌+◌, ◌-◌, ◌*◌, ◌%◌, ◌/◌, ◌^◌, ◌≤◌, ℕ, suc, max, Bool, true, false, cond, eqb, leb, List, [], ◌∷◌, ◌++◌, map, Option, None, Some, length, take, refl, sym, ap, ◌∙◌, subst, inl, inr, arith}
use Rattle.std.proofs.lemmas.Bool.{cases_lt}
use Rattle.std.proofs.lemmas.List.{length-append, length-map, length-take}
use Rattle.cnf.specs.declared.lit.Lit.{Lit}
use Rattle.cnf.specs.Cnf.{Cnf}
use Rattle.cnf.specs.Gates.{GrowsBy, not_both, all_clauses, with_exactly_one, with_and_gate, with_or_gate, with_true, with_false}
use Rattle.cnf.specs.Lits.{negation, positive}
use Rattle.cnf.specs.Numbers.{with_digit, with_compared_digit, with_comparison, with_found, with_at_least, remainder_digits, scaled_columns, with_reduced, Divided, with_next_digit, with_division}
use Rattle.cnf.specs.Sums.{half_adder_clauses, full_adder_clauses, with_half_adder, with_full_adder, with_cell, with_columns, columns, with_carry, with_adder}
use Rattle.cnf.proofs.DivisionLemmas.{few, many, length-scaled}
use Rattle.cnf.proofs.SumLemmas.{length-columns}

pub GrowsBy-more : (f g : Cnf) (v c v' c' : ℕ) → v ≤ v' → c ≤ c' → GrowsBy f g v c → GrowsBy f g v' c'
GrowsBy-more f g v c v' c' h k s = record {
  vars_bound = omega (arith, s.vars_bound);
  clauses_bound = omega (arith, s.clauses_bound);
}

pub GrowsBy-trans : (f g h : Cnf) (v c v' c' : ℕ) → GrowsBy f g v c → GrowsBy g h v' c' → GrowsBy f h (v + v') (c + c')
GrowsBy-trans f g h v c v' c' s t = record {
  vars_bound = omega (arith, s.vars_bound, t.vars_bound);
  clauses_bound = omega (arith, s.clauses_bound, t.clauses_bound);
}

GrowsBy-none : (f : Cnf) → GrowsBy f f 0 0
GrowsBy-none f = record { vars_bound = omega arith; clauses_bound = omega arith }

-- so many variables and clauses exactly
grows-exactly : (f : Cnf) (n : ℕ) (cs : List (List Lit)) → GrowsBy f (record { vars = f.vars + n; clauses = f.clauses ++ cs }) n (length cs)
grows-exactly f n cs = record { vars_bound = omega arith; clauses_bound = omega (arith, length-append f.clauses cs) }

length-not_both : (ls : List Lit) → length (not_both ls) ≤ length ls * length ls
length-not_both [] = omega arith
length-not_both (l ∷ ls) =
    let pairs = map (λ m. negation l ∷ negation m ∷ []) ls in
    square (length ls) (length (not_both ls)) (length pairs) (length (pairs ++ not_both ls)) (length-append pairs (not_both ls)) (length-map ls (λ m. negation l ∷ negation m ∷ [])) (length-not_both ls)
  where
    square : (n b p t : ℕ) → t ≡ p + b → p ≡ n → b ≤ n * n → t ≤ suc n * suc n
    square n b p t e k h = grind arith

pub exactly_one-size : (f : Cnf) (ls : List Lit) → GrowsBy f (with_exactly_one f ls) 0 (length ls * length ls + 1)
unfolding with_exactly_one
exactly_one-size f ls = record {
  vars_bound = omega arith;
  clauses_bound = omega (arith, length-append f.clauses (ls ∷ not_both ls), length-not_both ls);
}

length-all_clauses : (gate : Lit) (ls : List Lit) → length (all_clauses gate ls) ≡ length ls + 1
length-all_clauses gate ls =
    let each = map (λ l. negation gate ∷ l ∷ []) ls in
    let last = (gate ∷ map negation ls) ∷ [] in
    omega (arith, length-append each last, length-map ls (λ l. negation gate ∷ l ∷ []))

pub and_gate-size : (f : Cnf) (ls : List Lit) → GrowsBy f (with_and_gate f ls).0 1 (length ls + 1)
unfolding with_and_gate
and_gate-size f ls =
    let cs = all_clauses (positive f.vars) ls in
    let s = grows-exactly f 1 cs in
    record {
      vars_bound = s.vars_bound;
      clauses_bound = omega (arith, s.clauses_bound, length-all_clauses (positive f.vars) ls);
    }

or_gate-size : (f : Cnf) (a b : Lit) → GrowsBy f (with_or_gate f a b).0 1 3
unfolding with_or_gate
or_gate-size f a b =
    let g = positive f.vars in
    grows-exactly f 1 ((g ∷ negation a ∷ []) ∷ (g ∷ negation b ∷ []) ∷ (negation g ∷ a ∷ b ∷ []) ∷ [])

true-size : (f : Cnf) → GrowsBy f (with_true f).0 1 1
unfolding with_true
true-size f = grows-exactly f 1 ((positive f.vars ∷ []) ∷ [])

false-size : (f : Cnf) → GrowsBy f (with_false f).0 1 1
unfolding with_false
false-size f = grows-exactly f 1 ((negation (positive f.vars) ∷ []) ∷ [])

half_adder-size : (f : Cnf) (x y : Lit) → GrowsBy f (with_half_adder f x y).formula 2 8
unfolding with_half_adder half_adder_clauses
half_adder-size f x y = grows-exactly f 2 (half_adder_clauses x y (positive f.vars) (positive (f.vars + 1)))

full_adder-size : (f : Cnf) (x y z : Lit) → GrowsBy f (with_full_adder f x y z).formula 2 20
unfolding with_full_adder full_adder_clauses
full_adder-size f x y z = grows-exactly f 2 (full_adder_clauses x y z (positive f.vars) (positive (f.vars + 1)))

cell-size : (f : Cnf) (x : Lit) (y z : Option Lit) → GrowsBy f (with_cell f x y z).formula 2 20
cell-size f x None None = GrowsBy-more f f 0 0 2 20 (omega arith) (omega arith) (GrowsBy-none f)
cell-size f x None (Some z) =
    GrowsBy-more f (with_half_adder f x z).formula 2 8 2 20 (omega arith) (omega arith) (half_adder-size f x z)
cell-size f x (Some y) None =
    GrowsBy-more f (with_half_adder f x y).formula 2 8 2 20 (omega arith) (omega arith) (half_adder-size f x y)
cell-size f x (Some y) (Some z) = full_adder-size f x y z

columns-size : (f : Cnf) (carry : Option Lit) (cs : List (Lit × Option Lit)) → GrowsBy f (with_columns f carry cs).formula (2 * length cs) (20 * length cs)
columns-size f carry [] = GrowsBy-none f
columns-size f carry (c ∷ cs) =
    let cell = with_cell f c.0 c.1 carry in
    let rest = with_columns cell.formula cell.carry cs in
    let s = cell-size f c.0 c.1 carry in
    let t = columns-size cell.formula cell.carry cs in
    record {
      vars_bound = omega (arith, s.vars_bound, t.vars_bound);
      clauses_bound = omega (arith, s.clauses_bound, t.clauses_bound);
    }

carry-size : (f : Cnf) (carry : Option Lit) → GrowsBy f (with_carry f carry).0 1 1
carry-size f None = false-size f
carry-size f (Some l) = GrowsBy-more f f 0 0 1 1 (omega arith) (omega arith) (GrowsBy-none f)

pub adder-size : (f : Cnf) (x y : List Lit) → GrowsBy f (with_adder f x y).0 (2 * max (length x) (length y) + 1) (20 * max (length x) (length y) + 1)
unfolding with_adder
adder-size f x y =
    let sum = with_columns f None (columns x y) in
    let s = columns-size f None (columns x y) in
    let t = carry-size sum.formula sum.carry in
    let n = length-columns x y in
    record {
      vars_bound = omega (arith, s.vars_bound, t.vars_bound);
      clauses_bound = omega (arith, s.clauses_bound, t.clauses_bound);
    }

digit-size : (f : Cnf) (one : Bool) (digit below : Lit) → GrowsBy f (with_digit f one digit below).0 1 3
digit-size f true digit below = and_gate-size f (digit ∷ below ∷ [])
digit-size f false digit below = or_gate-size f digit below

compared_digit-size : (f : Cnf) (below : Option Lit) (digit : Lit) (one : Bool) → GrowsBy f (with_compared_digit f below digit one).0 1 3
compared_digit-size f None digit one = GrowsBy-more f f 0 0 1 3 (omega arith) (omega arith) (GrowsBy-none f)
compared_digit-size f (Some below) digit one = digit-size f one digit below

comparison-size : (f : Cnf) (below : Option Lit) (digits : List Lit) (bound : ℕ) → GrowsBy f (with_comparison f below digits bound).0 (length digits) (3 * length digits)
comparison-size f below [] bound = GrowsBy-none f
comparison-size f below (digit ∷ digits) bound =
    let next = with_compared_digit f below digit (eqb (bound % 2) 1) in
    let s = compared_digit-size f below digit (eqb (bound % 2) 1) in
    let t = comparison-size next.0 next.1 digits (bound / 2) in
    record {
      vars_bound = omega (arith, s.vars_bound, t.vars_bound);
      clauses_bound = omega (arith, s.clauses_bound, t.clauses_bound);
    }

found-size : (f : Cnf) (o : Option Lit) → GrowsBy f (with_found f o).0 1 1
found-size f None = true-size f
found-size f (Some l) = GrowsBy-more f f 0 0 1 1 (omega arith) (omega arith) (GrowsBy-none f)

by_test : (f : Cnf) (v c : ℕ) (b : Bool) (x y : Cnf × Lit) → GrowsBy f x.0 v c → GrowsBy f y.0 v c → GrowsBy f (cond b x y).0 v c
by_test f v c true x y h k = h
by_test f v c false x y h k = k

pub at_least-size : (f : Cnf) (x : List Lit) (bound : ℕ) → GrowsBy f (with_at_least f x bound).0 (length x + 1) (3 * length x + 1)
unfolding with_at_least
at_least-size f x bound =
    let all = with_comparison f None x bound in
    let s = comparison-size f None x bound in
    let t = found-size all.0 all.1 in
    by_test f (length x + 1) (3 * length x + 1) (leb (2 ^ length x) bound) (with_false f) (with_found all.0 all.1) (GrowsBy-more f (with_false f).0 1 1 (length x + 1) (3 * length x + 1) (omega arith) (omega arith) (false-size f)) (record {
      vars_bound = omega (arith, s.vars_bound, t.vars_bound);
      clauses_bound = omega (arith, s.clauses_bound, t.clauses_bound);
    })

reduced-size : (f : Cnf) (fits : Lit) (x : List Lit) (by : ℕ) → GrowsBy f (with_reduced f fits x by).0 (2 * remainder_digits by) (20 * remainder_digits by)
reduced-size f fits x by =
    let n = remainder_digits by in
    elim (cases_lt (length x) n) [
      | inl h ↦
          subst (λ r. GrowsBy f r.0 (2 * n) (20 * n)) (sym (few f fits x by h)) (GrowsBy-more f f 0 0 (2 * n) (20 * n) (omega arith) (omega arith) (GrowsBy-none f))
      | inr h ↦
          let cs = scaled_columns fits (2 ^ n - by) (take n x) in
          let s = columns-size f None cs in
          let places : length cs ≡ n = omega (arith, length-scaled fits (2 ^ n - by) (take n x), length-take n x) in
          subst (λ r. GrowsBy f r.0 (2 * n) (20 * n)) (sym (many f fits x by h)) (subst (λ k. GrowsBy f (with_columns f None cs).formula (2 * k) (20 * k)) places s)
    ]

-- what a step of a division adds, and how many digits it leaves
reduced-length : (f : Cnf) (fits : Lit) (x : List Lit) (by : ℕ) → length (with_reduced f fits x by).1 ≤ remainder_digits by
reduced-length f fits x by =
    let n = remainder_digits by in
    elim (cases_lt (length x) n) [
      | inl h ↦ subst (λ r. length r.1 ≤ n) (sym (few f fits x by h)) (omega arith)
      | inr h ↦
          let cs = scaled_columns fits (2 ^ n - by) (take n x) in
          let places : length cs ≡ n = omega (arith, length-scaled fits (2 ^ n - by) (take n x), length-take n x) in
          subst (λ r. length r.1 ≤ n) (sym (many f fits x by h)) (omega (arith, places, length-sums f None cs))
    ]
  where
    length-sums : (f : Cnf) (carry : Option Lit) (cs : List (Lit × Option Lit)) → length (with_columns f carry cs).sums ≡ length cs
    length-sums f carry [] = refl
    length-sums f carry (c ∷ cs) =
        let cell = with_cell f c.0 c.1 carry in ap suc (length-sums cell.formula cell.carry cs)

record StepSize (d : Divided) (by : ℕ) (r : Divided) : Type 0 where
  size : GrowsBy d.formula r.formula (3 * remainder_digits by + 2) (23 * remainder_digits by + 4)
  short : length r.remainder ≤ remainder_digits by

next_digit-size : (d : Divided) (digit : Lit) (by : ℕ) → length d.remainder ≤ remainder_digits by → StepSize d by (with_next_digit d digit by)
unfolding with_next_digit
next_digit-size d digit by h =
    let x = digit ∷ d.remainder in
    let fits = with_at_least d.formula x by in
    let s = at_least-size d.formula x by in
    let t = reduced-size fits.0 fits.1 x by in
    record {
      size = record {
        vars_bound = omega (arith, s.vars_bound, t.vars_bound);
        clauses_bound = omega (arith, s.clauses_bound, t.clauses_bound);
      };
      short = reduced-length fits.0 fits.1 x by;
    }

record DivisionSize (f : Cnf) (x : List Lit) (by : ℕ) (r : Divided) : Type 0 where
  size : GrowsBy f r.formula ((3 * remainder_digits by + 2) * length x) ((23 * remainder_digits by + 4) * length x)
  short : length r.remainder ≤ remainder_digits by

add_step : (t a v n p : ℕ) → t ≤ a + p → a ≤ v + p * n → t ≤ v + p * suc n
add_step t a v n p h k = grind arith

division-sizes : (f : Cnf) (x : List Lit) (by : ℕ) → DivisionSize f x by (with_division f x by)
division-sizes f [] by = record {
  size = GrowsBy-more f f 0 0 _ _ (omega arith) (omega arith) (GrowsBy-none f);
  short = omega arith;
}
division-sizes f (digit ∷ digits) by =
    let d = with_division f digits by in
    let old = division-sizes f digits by in
    let step = next_digit-size d digit by old.short in
    record {
      size = record {
        vars_bound = add_step _ _ f.vars (length digits) (3 * remainder_digits by + 2) step.size.vars_bound old.size.vars_bound;
        clauses_bound = add_step _ _ (length f.clauses) (length digits) (23 * remainder_digits by + 4) step.size.clauses_bound old.size.clauses_bound;
      };
      short = step.short;
    }

pub division-size : (f : Cnf) (x : List Lit) (by : ℕ) → GrowsBy f (with_division f x by).formula ((3 * remainder_digits by + 2) * length x) ((23 * remainder_digits by + 4) * length x)
division-size f x by = (division-sizes f x by).size

pub length-remainder : (f : Cnf) (x : List Lit) (by : ℕ) → length (with_division f x by).remainder ≤ remainder_digits by
length-remainder f x by = (division-sizes f x by).short

next-quotient : (d : Divided) (digit : Lit) (by : ℕ) → length (with_next_digit d digit by).quotient ≡ suc (length d.quotient)
unfolding with_next_digit
next-quotient d digit by = refl

pub length-quotient : (f : Cnf) (x : List Lit) (by : ℕ) → length (with_division f x by).quotient ≡ length x
length-quotient f [] by = refl
length-quotient f (digit ∷ digits) by =
    next-quotient (with_division f digits by) digit by ∙ ap suc (length-quotient f digits by)
