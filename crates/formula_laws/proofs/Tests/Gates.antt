-- The gates of tests of positions.
use Rattle.std.proofs.Common.{Bool, IsTrue, List, [], ap, arith, false, length, map, negsuc, not, pos, refl, subst, suc, sym, true, zero, ℕ, ℤ, ◌%◌, ◌&&◌, ◌*◌, ◌++◌, ◌+◌, ◌-◌, ◌<◌, ◌^◌, ◌↔◌, ◌∙◌, ◌∷◌, ◌≡◌, ◌≤◌}
use Rattle.std.proofs.lemmas.Bool.{and_from, and_parts, false≢true}
use Rattle.std.proofs.lemmas.Int.{ints}
use Rattle.std.proofs.lemmas.List.Folds.{list_all-append}
use Rattle.std.specs.Bool.{MatchBool}
use Rattle.std.specs.List.{list_all}
use Rattle.std.specs.Prelude.{unsigned_abs}
use Rattle.formula_laws.proofs.Numbers.Related.{number_stable}
use Rattle.formula_laws.proofs.Tests.Falling.{falling-facts}
use Rattle.formula_laws.proofs.Tests.Remainders.{nth_alone, nth_falling, nth_rising}
use Rattle.formula_laws.proofs.Tests.Rising.{rising-facts}
use Rattle.formula_laws.specs.Positions.{with_exact, with_falling, with_nth, with_rising, with_zeros}
use Rattle.cnf.proofs.ForCallers.{Extends-trans, and_gate-below, and_gate-extends, and_gate-grows, and_gate-means, are_below-mono, are_below-negations, at_least-facts, at_least-grows, division-grows, false-below, false-extends, false-grows, false-means, is_below-mono, is_below-negation, kept-hold, list_all-append-from, pair_below, value-negation}
use Rattle.cnf.specs.Cnf.{Cnf, is_in_range}
use Rattle.cnf.specs.Gates.{Extends, with_and_gate, with_false}
use Rattle.cnf.specs.Lits.{are_below, is_below, negation}
use Rattle.cnf.specs.Numbers.{with_at_least, with_division}
use Rattle.cnf.specs.Sums.{bit, number}
use Rattle.cnf.specs.Values.{all_hold, value}
use Rattle.cnf.specs.declared.lit.Lit.{Lit}
use Rattle.css_model.specs.Documents.Matching.{IsNth}
use Rattle.css_model.specs.declared.position.AnB.{AnB}

-- A gate on numbers whose answer is true exactly where G holds.
pub record GateFacts (base : ℕ) (gate : Cnf → Cnf × Lit) (G : List Bool → Type 0) : Type 0 where
  pub grows : (f : Cnf) → f.vars ≤ (gate f).0.vars
  pub extends : (f : Cnf) → base ≤ f.vars → IsTrue (is_in_range f) → Extends f (gate f).0
  pub below : (f : Cnf) → base ≤ f.vars → IsTrue (is_in_range f) → IsTrue (is_below (gate f).0.vars (gate f).1)
  pub means : (f : Cnf) (vs : List Bool) → base ≤ f.vars → IsTrue (is_in_range f) → IsTrue (all_hold vs (gate f).0.clauses) → (value vs (gate f).1 ≡ true) ↔ G vs
  pub stable : (vs more : List Bool) → base ≤ length vs → G (vs ++ more) ↔ G vs

facts_as : (base : ℕ) (gate : Cnf → Cnf × Lit) (G H : List Bool → Type 0) → ((vs : List Bool) → G vs ↔ H vs) → GateFacts base gate G → GateFacts base gate H
facts_as base gate G H same g = record {
  grows = g.grows;
  extends = g.extends;
  below = g.below;
  means = λ f vs low r h. let m = g.means f vs low r h in (λ t. (same vs).0 (m.0 t), λ q. m.1 ((same vs).1 q));
  stable = λ vs more low. let s = g.stable vs more low in (λ q. (same vs).0 (s.0 ((same (vs ++ more)).1 q)), λ q. (same (vs ++ more)).0 (s.1 ((same vs).1 q)));
}

number_same : (base : ℕ) (n : List Lit) (T : ℕ → Type 0) → IsTrue (are_below base n) → (vs more : List Bool) → base ≤ length vs → T (number (vs ++ more) n) ↔ T (number vs n)
number_same base n T h vs more low =
    let e = number_stable vs more n (are_below-mono base (length vs) low n h) in
    (λ t. subst T e t, λ t. subst T (sym e) t)

two : (a c : Bool) → {p q r : ℕ} → MatchBool a (p ≤ q) (q < p) → MatchBool c (r ≤ q) (q < r) → r ≡ p + 1 → ((a && (not c && true)) ≡ true) ↔ (q ≡ p)
two true true x z e = (λ h. absurd (false≢true h), λ w. absurd (omega (arith, w)))
two true false x z e = (λ _. omega arith, λ _. refl)
two false c x z e = (λ h. absurd (false≢true h), λ w. absurd (omega (arith, w)))

exact_grows : (c : ℕ) (n : List Lit) (f : Cnf) → f.vars ≤ (with_exact c n f).0.vars
unfolding with_exact
exact_grows c n f =
    let a = with_at_least f n c in
    let ga = at_least-grows f n c in
    let b = with_at_least a.0 n (c + 1) in
    let gb = at_least-grows a.0 n (c + 1) in
    let g = and_gate-grows b.0 (a.1 ∷ negation b.1 ∷ []) in
    omega arith

pub record ExactFacts (f : Cnf) (c : ℕ) (n : List Lit) (r : Cnf × Lit) : Type 0 where
  extends : Extends f r.0
  below : IsTrue (is_below r.0.vars r.1)
  means : (vs : List Bool) → IsTrue (all_hold vs r.0.clauses) → (value vs r.1 ≡ true) ↔ (number vs n ≡ c)

exact-facts : (f : Cnf) (c : ℕ) (n : List Lit) → IsTrue (is_in_range f) → IsTrue (are_below f.vars n) → ExactFacts f c n (with_exact c n f)
unfolding with_exact
exact-facts f c n r hn =
    let a = at_least-facts f n c r hn in
    let ga = with_at_least f n c in
    let b = at_least-facts ga.0 n (c + 1) a.extends.in_range (are_below-mono f.vars ga.0.vars a.extends.more_vars n hn) in
    let gb = with_at_least ga.0 n (c + 1) in
    let lits = ga.1 ∷ negation gb.1 ∷ [] in
    let below : IsTrue (are_below gb.0.vars lits) = pair_below gb.0.vars ga.1 (negation gb.1) (is_below-mono ga.0.vars gb.0.vars b.extends.more_vars ga.1 a.below) (is_below-negation gb.0.vars gb.1 b.below) in
    let last = and_gate-extends gb.0 lits b.extends.in_range below in
    let top = with_and_gate gb.0 lits in
    record {
      extends = Extends-trans f ga.0 top.0 a.extends (Extends-trans ga.0 gb.0 top.0 b.extends last);
      below = and_gate-below gb.0 lits;
      means = λ vs h.
          let hb = kept-hold gb.0 top.0 vs last h in
          let ha = kept-hold ga.0 gb.0 vs b.extends hb in
          let is = and_gate-means gb.0 lits vs h in
          let t = two (value vs ga.1) (value vs gb.1) (a.means vs ha) (b.means vs hb) refl in
          let e = ap (λ x. value vs ga.1 && (x && true)) (value-negation vs gb.1) in
          (λ w. t.0 (sym e ∙ sym is ∙ w), λ w. is ∙ e ∙ t.1 w);
    }

exact_gate : (base c : ℕ) (n : List Lit) → IsTrue (are_below base n) → GateFacts base (with_exact c n) (λ vs. number vs n ≡ c)
exact_gate base c n hn = record {
  grows = exact_grows c n;
  extends = λ f low r. (exact-facts f c n r (are_below-mono base f.vars low n hn)).extends;
  below = λ f low r. (exact-facts f c n r (are_below-mono base f.vars low n hn)).below;
  means = λ f vs low r h. (exact-facts f c n r (are_below-mono base f.vars low n hn)).means vs h;
  stable = number_same base n (λ k. k ≡ c) hn;
}

false_gate : (base : ℕ) → GateFacts base with_false (λ vs. ⊥)
false_gate base = record {
  grows = λ f. let g = false-grows f in omega arith;
  extends = λ f low r. false-extends f r;
  below = λ f low r. false-below f;
  means = λ f vs low r h. (λ t. false≢true (sym (false-means f vs h) ∙ t), λ no. absurd no);
  stable = λ vs more low. (λ no. no, λ no. no);
}

rising_grows : (step rest low : ℕ) (n : List Lit) (f : Cnf) → f.vars ≤ (with_rising step rest low n f).0.vars
unfolding with_rising
rising_grows step rest low n f =
    let d = with_division f n step in
    let gd = division-grows f n step in
    let a = with_at_least d.formula n low in
    let ga = at_least-grows d.formula n low in
    let b = with_at_least a.0 d.remainder rest in
    let gb = at_least-grows a.0 d.remainder rest in
    let c = with_at_least b.0 d.remainder (rest + 1) in
    let gc = at_least-grows b.0 d.remainder (rest + 1) in
    let g = and_gate-grows c.0 (a.1 ∷ b.1 ∷ negation c.1 ∷ []) in
    omega arith

rising_gate : (base step rest low' : ℕ) (n : List Lit) → IsTrue (are_below base n) → 0 < step → step < 2 ^ 32 → GateFacts base (with_rising step rest low' n) (λ vs. (number vs n % step ≡ rest) × (low' ≤ number vs n))
rising_gate base step rest low' n hn some small = record {
  grows = rising_grows step rest low' n;
  extends = λ f low r. (rising-facts f step rest low' n r (are_below-mono base f.vars low n hn) some small).extends;
  below = λ f low r. (rising-facts f step rest low' n r (are_below-mono base f.vars low n hn) some small).below;
  means = λ f vs low r h. (rising-facts f step rest low' n r (are_below-mono base f.vars low n hn) some small).means vs h;
  stable = number_same base n (λ k. (k % step ≡ rest) × (low' ≤ k)) hn;
}

falling_grows : (step rest high : ℕ) (n : List Lit) (f : Cnf) → f.vars ≤ (with_falling step rest high n f).0.vars
unfolding with_falling
falling_grows step rest high n f =
    let d = with_division f n step in
    let gd = division-grows f n step in
    let a = with_at_least d.formula n high in
    let ga = at_least-grows d.formula n high in
    let b = with_at_least a.0 d.remainder rest in
    let gb = at_least-grows a.0 d.remainder rest in
    let c = with_at_least b.0 d.remainder (rest + 1) in
    let gc = at_least-grows b.0 d.remainder (rest + 1) in
    let g = and_gate-grows c.0 (negation a.1 ∷ b.1 ∷ negation c.1 ∷ []) in
    omega arith

falling_gate : (base step rest high : ℕ) (n : List Lit) → IsTrue (are_below base n) → 0 < step → step < 2 ^ 32 → GateFacts base (with_falling step rest high n) (λ vs. (number vs n % step ≡ rest) × (number vs n < high))
falling_gate base step rest high n hn some small = record {
  grows = falling_grows step rest high n;
  extends = λ f low r. (falling-facts f step rest high n r (are_below-mono base f.vars low n hn) some small).extends;
  below = λ f low r. (falling-facts f step rest high n r (are_below-mono base f.vars low n hn) some small).below;
  means = λ f vs low r h. (falling-facts f step rest high n r (are_below-mono base f.vars low n hn) some small).means vs h;
  stable = number_same base n (λ k. (k % step ≡ rest) × (k < high)) hn;
}

-- digits that are all 0
zero_digits : (vs : List Bool) (x : List Lit) → (list_all (value vs) (map negation x) ≡ true) ↔ (number vs x ≡ 0)
zero_digits vs [] = (λ _. refl, λ _. refl)
zero_digits vs (l ∷ ls) = let rest = zero_digits vs ls in by (value vs l) (value vs (negation l)) (value-negation vs l) (list_all (value vs) (map negation ls)) (number vs ls) rest
  where
    by : (a b : Bool) → b ≡ not a → (c : Bool) (m : ℕ) → (c ≡ true) ↔ (m ≡ 0) → ((b && c) ≡ true) ↔ (bit a + 2 * m ≡ 0)
    by true true e c m r = absurd (false≢true (sym e))
    by true false e c m r = (λ h. absurd (false≢true h), λ h. absurd (omega arith))
    by false true e c m r = (λ h. (let z = r.0 h in omega arith), λ h. r.1 (omega arith))
    by false false e c m r = absurd (false≢true e)

pub zeros_gate : (base : ℕ) (b a : List Lit) → IsTrue (are_below base b) → IsTrue (are_below base a) → GateFacts base (with_zeros b a) (λ vs. (number vs b ≡ 0) × (number vs a ≡ 0))
zeros_gate base b a hb ha = record {
  grows = λ f. let g = and_gate-grows f (map negation b ++ map negation a) in omega arith;
  extends = λ f low r. and_gate-extends f (map negation b ++ map negation a) r (inside f.vars low);
  below = λ f low r. and_gate-below f (map negation b ++ map negation a);
  means = λ f vs low r h.
      let is = and_gate-means f (map negation b ++ map negation a) vs h ∙ list_all-append (value vs) (map negation b) (map negation a) in (
        λ t. let p = and_parts (list_all (value vs) (map negation b)) (list_all (value vs) (map negation a)) (sym is ∙ t) in ((zero_digits vs b).0 p.0, (zero_digits vs a).0 p.1),
        λ q. is ∙ and_from (list_all (value vs) (map negation b)) (list_all (value vs) (map negation a)) ((zero_digits vs b).1 q.0) ((zero_digits vs a).1 q.1),
      );
  stable = λ vs more low. let eb = number_same base b (λ k. k ≡ 0) hb vs more low in let ea = number_same base a (λ k. k ≡ 0) ha vs more low in (λ q. (eb.0 q.0, ea.0 q.1), λ q. (eb.1 q.0, ea.1 q.1));
}
  where
    inside : (v : ℕ) → base ≤ v → IsTrue (are_below v (map negation b ++ map negation a))
    inside v low = list_all-append-from (is_below v) (map negation b) (map negation a) (are_below-negations v b (are_below-mono base v low b hb)) (are_below-negations v a (are_below-mono base v low a ha))

-- the gate of a n + b
pub nth_gate : (base : ℕ) (x : AnB) (n : List Lit) → IsTrue (are_below base n) → unsigned_abs x.a < 2 ^ 32 → GateFacts base (with_nth x.a x.b n) (λ vs. IsNth x (number vs n + 1))
nth_gate base x n hn small = by x.a x.b small
  where
    by : (a b : ℤ) → unsigned_abs a < 2 ^ 32 → GateFacts base (with_nth a b n) (λ vs. IsNth (record { a = a; b = b }) (number vs n + 1))
    by (pos zero) (pos zero) small = facts_as base with_false (λ vs. ⊥) _ (λ vs. (λ no. absurd no, λ h. (let e = (nth_alone (pos 0) (number vs n)).0 h in omega (arith, ints)))) (false_gate base)
    by (pos zero) (pos (suc c)) small = facts_as base (with_exact c n) (λ vs. number vs n ≡ c) _
        (λ vs. (λ e. (nth_alone (pos (suc c)) (number vs n)).1 (omega (arith, ints)), λ h. (let e = (nth_alone (pos (suc c)) (number vs n)).0 h in omega (arith, ints)))) (exact_gate base c n hn)
    by (pos zero) (negsuc k) small = facts_as base with_false (λ vs. ⊥) _ (λ vs. (λ no. absurd no, λ h. (let e = (nth_alone (negsuc k) (number vs n)).0 h in omega (arith, ints)))) (false_gate base)
    by (pos (suc s)) (pos k) small = facts_as base (with_rising (suc s) ((k + s) % suc s) (k - 1) n) (λ vs. (number vs n % suc s ≡ (k + s) % suc s) × (k - 1 ≤ number vs n)) _
        (λ vs. let law = nth_rising (suc s) 1 (k + s) (number vs n) (pos k) (omega arith) (omega (arith, ints)) in
        (λ q. law.1 (q.0, let l = q.1 in omega arith), λ h. let q = law.0 h in (q.0, let l = q.1 in omega arith))) (rising_gate base (suc s) ((k + s) % suc s) (k - 1) n hn (omega arith) (omega (arith, small)))
    by (pos (suc s)) (negsuc k) small = facts_as base (with_rising (suc s) (((k + 2) * s) % suc s) 0 n) (λ vs. (number vs n % suc s ≡ ((k + 2) * s) % suc s) × (0 ≤ number vs n)) _
        (λ vs. let law = nth_rising (suc s) (k + 2) ((k + 2) * s) (number vs n) (negsuc k) (omega arith) (let e : (k + 2) * suc s ≡ (k + 2) * s + (k + 2) = grind arith in omega (arith, ints)) in
        (λ q. law.1 (q.0, let e : (k + 2) * suc s ≡ (k + 2) * s + (k + 2) = grind arith in omega arith), λ h. let q = law.0 h in (q.0, omega arith))) (rising_gate base (suc s) (((k + 2) * s) % suc s) 0 n hn (omega arith) (omega (arith, small)))
    by (negsuc s) (pos k) small = facts_as base (with_falling (suc s) ((k + s) % suc s) k n) (λ vs. (number vs n % suc s ≡ (k + s) % suc s) × (number vs n < k)) _
        (λ vs. let law = nth_falling s 1 (k + s) (number vs n) (pos k) (omega (arith, ints)) in
        (λ q. law.1 (q.0, let l = q.1 in omega arith), λ h. let q = law.0 h in (q.0, let l = q.1 in omega arith))) (falling_gate base (suc s) ((k + s) % suc s) k n hn (omega arith) (omega (arith, small)))
    by (negsuc s) (negsuc k) small = facts_as base with_false (λ vs. ⊥) _
        (λ vs. let law = nth_falling s (k + 2) ((k + 2) * s) (number vs n) (negsuc k) (let e : (k + 2) * suc s ≡ (k + 2) * s + (k + 2) = grind arith in omega (arith, ints)) in
        (λ no. absurd no, λ h. let q = law.0 h in (let l = q.1 in let e : (k + 2) * suc s ≡ (k + 2) * s + (k + 2) = grind arith in omega arith))) (false_gate base)
