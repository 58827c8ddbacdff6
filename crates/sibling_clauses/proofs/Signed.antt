-- Positions by the signs and sizes of their step and offset.
use Rattle.std.proofs.Common.{List, ap, arith, false, negsuc, pos, refl, suc, true, zero, ℕ, ℤ, ◌%◌, ◌*◌, ◌+◌, ◌-◌, ◌≡◌, ◌≢◌, ◌∙◌}
use Rattle.std.specs.Prelude.{unsigned_abs}
use Rattle.sibling_clauses.specs.Signs.{is_negative}
use Rattle.cnf.specs.Cnf.{Cnf}
use Rattle.cnf.specs.Gates.{with_false}
use Rattle.cnf.specs.declared.lit.Lit.{Lit}
use Rattle.formula_laws.specs.Positions.{with_exact, with_falling, with_nth, with_rising}

pub flat_back : (a b : ℤ) (n : List Lit) (f : Cnf) → unsigned_abs a ≡ 0 → is_negative b ≡ true → with_nth a b n f ≡ with_false f
flat_back (pos zero) (pos k) n f e h = cc
flat_back (pos zero) (negsuc k) n f e h = refl
flat_back (pos (suc s)) b n f e h = absurd (let q : suc s ≡ 0 = e in omega arith)
flat_back (negsuc s) b n f e h = absurd (let q : suc s ≡ 0 = e in omega arith)

pub flat_zero : (a b : ℤ) (n : List Lit) (f : Cnf) → unsigned_abs a ≡ 0 → unsigned_abs b ≡ 0 → with_nth a b n f ≡ with_false f
flat_zero (pos zero) (pos zero) n f e h = refl
flat_zero (pos zero) (pos (suc k)) n f e h = absurd (let q : suc k ≡ 0 = h in omega arith)
flat_zero (pos zero) (negsuc k) n f e h = refl
flat_zero (pos (suc s)) b n f e h = absurd (let q : suc s ≡ 0 = e in omega arith)
flat_zero (negsuc s) b n f e h = absurd (let q : suc s ≡ 0 = e in omega arith)

pub flat_some : (a b : ℤ) (n : List Lit) (f : Cnf) → unsigned_abs a ≡ 0 → is_negative b ≡ false → unsigned_abs b ≢ 0 → with_nth a b n f ≡ with_exact (unsigned_abs b - 1) n f
flat_some (pos zero) (pos zero) n f e h some = absurd (some refl)
flat_some (pos zero) (pos (suc k)) n f e h some = ap (λ (c : ℕ). with_exact c n f) (let q : k ≡ suc k - 1 = omega arith in q)
flat_some (pos zero) (negsuc k) n f e h some = cc
flat_some (pos (suc s)) b n f e h some = absurd (let q : suc s ≡ 0 = e in omega arith)
flat_some (negsuc s) b n f e h some = absurd (let q : suc s ≡ 0 = e in omega arith)

pub falls_back : (a b : ℤ) (n : List Lit) (f : Cnf) → is_negative a ≡ true → is_negative b ≡ true → with_nth a b n f ≡ with_false f
falls_back (pos s) b n f e h = cc
falls_back (negsuc s) (pos k) n f e h = cc
falls_back (negsuc s) (negsuc k) n f e h = refl

pub falls_some : (a b : ℤ) (n : List Lit) (f : Cnf) → is_negative a ≡ true → is_negative b ≡ false →
    with_nth a b n f ≡ with_falling (unsigned_abs a) ((unsigned_abs b + unsigned_abs a - 1) % unsigned_abs a) (unsigned_abs b) n f
falls_some (pos s) b n f e h = cc
falls_some (negsuc s) (pos k) n f e h = ap (λ (r : ℕ). with_falling (suc s) (r % suc s) k n f) (let q : k + s ≡ k + suc s - 1 = omega arith in q)
falls_some (negsuc s) (negsuc k) n f e h = cc

pub rises_back : (a b : ℤ) (n : List Lit) (f : Cnf) → unsigned_abs a ≢ 0 → is_negative a ≡ false → is_negative b ≡ true →
    with_nth a b n f ≡ with_rising (unsigned_abs a) ((unsigned_abs b + 1) * (unsigned_abs a - 1) % unsigned_abs a) 0 n f
rises_back (pos zero) b n f some e h = absurd (some refl)
rises_back (pos (suc s)) (pos k) n f some e h = cc
rises_back (pos (suc s)) (negsuc k) n f some e h = ap (λ (r : ℕ). with_rising (suc s) (r % suc s) 0 n f) (ap (λ (t : ℕ). t * s) (let q : k + 2 ≡ suc k + 1 = omega arith in q) ∙ ap (λ (t : ℕ). (suc k + 1) * t) (let q : s ≡ suc s - 1 = omega arith in q))
rises_back (negsuc s) b n f some e h = cc

pub rises_some : (a b : ℤ) (n : List Lit) (f : Cnf) → unsigned_abs a ≢ 0 → is_negative a ≡ false → is_negative b ≡ false →
    with_nth a b n f ≡ with_rising (unsigned_abs a) ((unsigned_abs b + unsigned_abs a - 1) % unsigned_abs a) (unsigned_abs b - 1) n f
rises_some (pos zero) b n f some e h = absurd (some refl)
rises_some (pos (suc s)) (pos k) n f some e h = ap (λ (r : ℕ). with_rising (suc s) (r % suc s) (k - 1) n f) (let q : k + s ≡ k + suc s - 1 = omega arith in q)
rises_some (pos (suc s)) (negsuc k) n f some e h = cc
rises_some (negsuc s) b n f some e h = cc

pub ruleset nth_reads = (flat_back, flat_zero, flat_some, falls_back, falls_some, rises_back, rises_some)
