-- The gate of a test with a step downwards says what it should.
use Rattle.std.proofs.Common.{Bool, IsTrue, List, [], ap, arith, false, not, refl, sym, true, ℕ, ◌%◌, ◌&&◌, ◌+◌, ◌<◌, ◌^◌, ◌↔◌, ◌∙◌, ◌∷◌, ◌≡◌, ◌≤◌}
use Rattle.std.proofs.lemmas.Bool.{false≢true}
use Rattle.std.specs.Bool.{MatchBool}
use Rattle.formula_laws.specs.Positions.{with_falling}
use Rattle.cnf.proofs.ForCallers.{Extends-trans, and_gate-below, and_gate-extends, and_gate-means, are_below-mono, at_least-facts, division-facts, is_below-mono, is_below-negation, kept-hold, remainder_of, triple_below, value-negation}
use Rattle.cnf.specs.Cnf.{Cnf, is_in_range}
use Rattle.cnf.specs.Gates.{Extends, with_and_gate}
use Rattle.cnf.specs.Lits.{are_below, is_below, negation}
use Rattle.cnf.specs.Numbers.{with_at_least, with_division}
use Rattle.cnf.specs.Sums.{number}
use Rattle.cnf.specs.Values.{all_hold, value}
use Rattle.cnf.specs.declared.lit.Lit.{Lit}

pub record FallingFacts (f : Cnf) (step rest low : ℕ) (n : List Lit) (r : Cnf × Lit) : Type 0 where
  pub extends : Extends f r.0
  pub below : IsTrue (is_below r.0.vars r.1)
  pub means : (vs : List Bool) → IsTrue (all_hold vs r.0.clauses) → (value vs r.1 ≡ true) ↔ ((number vs n % step ≡ rest) × (number vs n < low))

three : (a b c : Bool) → {p q r s t : ℕ} → MatchBool a (p ≤ q) (q < p) → MatchBool b (r ≤ s) (s < r) → MatchBool c (t ≤ s) (s < t) → t ≡ r + 1 → ((not a && (b && (not c && true))) ≡ true) ↔ ((s ≡ r) × (q < p))
three false true true x y z e = (λ h. absurd (false≢true h), λ w. absurd (omega (arith, w)))
three false true false x y z e = (λ _. (omega arith, x), λ _. refl)
three false false c x y z e = (λ h. absurd (false≢true h), λ w. absurd (omega (arith, w)))
three true b c x y z e = (λ h. absurd (false≢true h), λ w. absurd (omega (arith, w)))

pub falling-facts : (f : Cnf) (step rest low : ℕ) (n : List Lit) → IsTrue (is_in_range f) → IsTrue (are_below f.vars n) → 0 < step → step < 2 ^ 32 → FallingFacts f step rest low n (with_falling step rest low n f)
unfolding with_falling
falling-facts f step rest low n r hn some small =
    let d = division-facts f n step r hn some small in
    let div = with_division f n step in
    let a = at_least-facts div.formula n low d.extends.in_range (are_below-mono f.vars div.formula.vars d.extends.more_vars n hn) in
    let ga = with_at_least div.formula n low in
    let b = at_least-facts ga.0 div.remainder rest a.extends.in_range (are_below-mono div.formula.vars ga.0.vars a.extends.more_vars div.remainder d.remainder_below) in
    let gb = with_at_least ga.0 div.remainder rest in
    let c = at_least-facts gb.0 div.remainder (rest + 1) b.extends.in_range (are_below-mono div.formula.vars gb.0.vars (let u = a.extends.more_vars in let w = b.extends.more_vars in omega arith) div.remainder d.remainder_below) in
    let gc = with_at_least gb.0 div.remainder (rest + 1) in
    let lits = negation ga.1 ∷ gb.1 ∷ negation gc.1 ∷ [] in
    let below : IsTrue (are_below gc.0.vars lits) = triple_below gc.0.vars (negation ga.1) gb.1 (negation gc.1)
    (is_below-negation gc.0.vars ga.1 (is_below-mono ga.0.vars gc.0.vars (let u = b.extends.more_vars in let w = c.extends.more_vars in omega arith) ga.1 a.below))
    (is_below-mono gb.0.vars gc.0.vars c.extends.more_vars gb.1 b.below) (is_below-negation gc.0.vars gc.1 c.below) in
    let last = and_gate-extends gc.0 lits c.extends.in_range below in
    let top = with_and_gate gc.0 lits in
    record {
      extends = Extends-trans f div.formula top.0 d.extends (Extends-trans div.formula ga.0 top.0 a.extends (Extends-trans ga.0 gb.0 top.0 b.extends (Extends-trans gb.0 gc.0 top.0 c.extends last)));
      below = and_gate-below gc.0 lits;
      means = λ vs h.
          let hc = kept-hold gc.0 top.0 vs last h in
          let hb = kept-hold gb.0 gc.0 vs c.extends hc in
          let ha = kept-hold ga.0 gb.0 vs b.extends hb in
          let hd = kept-hold div.formula ga.0 vs a.extends ha in
          let m = d.means vs hd in
          let rem = remainder_of (number vs n) (number vs div.quotient) (number vs div.remainder) step m.0 m.1 in
          let is = and_gate-means gc.0 lits vs h in
          let t = three (value vs ga.1) (value vs gb.1) (value vs gc.1) (a.means vs ha) (b.means vs hb) (c.means vs hc) refl in
          let e = ap (λ x. x && (value vs gb.1 && (value vs (negation gc.1) && true))) (value-negation vs ga.1) ∙ ap (λ x. not (value vs ga.1) && (value vs gb.1 && (x && true))) (value-negation vs gc.1) in
          (λ w. (let q = t.0 (sym e ∙ sym is ∙ w) in (sym rem ∙ q.0, q.1)), λ w. is ∙ e ∙ t.1 (rem ∙ w.0, w.1));
    }
