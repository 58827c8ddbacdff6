-- Hints on what numbers leave.
use Rattle.std.proofs.Common.{Bool, IsTrue, List, Option, [], ap, arith, false, length, not, refl, subst, sym, true, ℕ, ◌%◌, ◌&&◌, ◌*◌, ◌+◌, ◌/◌, ◌<◌, ◌||◌, ◌∙◌, ◌∷◌, ◌≡◌, ◌≤◌}
use Rattle.std.proofs.lemmas.Bool.{and_from, and_parts, cond-false, cond-true, eq-eqb, leb-true}
use Rattle.std.specs.List.{AllByRecursion, list_all}
use Rattle.std.specs.Prelude.{None, Some, if◌then◌else◌, nat_le, ◌==◌}
use Rattle.cnf.proofs.ForCallers.{are_below-mono, division-facts, division-grows, is_below-negation, one_below, remainder_of, value-negation}
use Rattle.cnf.specs.Cnf.{Cnf}
use Rattle.cnf.specs.Gates.{with_clauses}
use Rattle.cnf.specs.Lits.{are_below, is_below, negation}
use Rattle.cnf.specs.Numbers.{with_division}
use Rattle.cnf.specs.Sums.{bit, number}
use Rattle.cnf.specs.Values.{all_hold, holds, value}
use Rattle.cnf.specs.declared.lit.Lit.{Lit}
use Rattle.formula_laws.proofs.Hints.Hint.{Hint, IsStable, gate_hint, when_hint}
use Rattle.formula_laws.specs.Hints.{rest_clauses, rest_digits, with_rests}
use Rattle.remainders.proofs.ForCallers.{HaveSteps, joint_left, joint_positive}
use Rattle.remainders.specs.Remainders.{Leaves, joint_rest, joint_step, most_joint}
use Rattle.remainders.specs.declared.remainder.Remainder.{Remainder}

-- a number has its digits
digit_holds : (vs : List Bool) (l : Lit) (c m : ℕ) → bit (value vs l) + 2 * m ≡ c → IsTrue (holds vs ((if c % 2 == 1 then l else negation l) ∷ []))
digit_holds vs l c m e = by (value vs l) refl
  where
    by : (b : Bool) → value vs l ≡ b → IsTrue (holds vs ((if c % 2 == 1 then l else negation l) ∷ []))
    by true t =
        let odd : c % 2 ≡ 1 = let d = ap bit t in omega arith in
        subst (λ k. IsTrue (holds vs (k ∷ []))) (sym (cond-true (c % 2 == 1) l (negation l) (eq-eqb (c % 2) 1 odd))) (ap (λ b. b || false) t)
    by false t =
        let even : c % 2 ≡ 0 = let d = ap bit t in omega arith in
        subst (λ k. IsTrue (holds vs (k ∷ []))) (sym (cond-false (c % 2 == 1) l (negation l) (ap (λ (k : ℕ). k == 1) even))) (ap (λ b. b || false) (value-negation vs l ∙ ap not t))

pub rest_holds : (vs : List Bool) (ls : List Lit) (c : ℕ) → number vs ls ≡ c → IsTrue (all_hold vs (rest_digits ls c))
rest_holds vs [] c e = refl
rest_holds vs (l ∷ ls) c e =
    and_from (holds vs ((if c % 2 == 1 then l else negation l) ∷ [])) (all_hold vs (rest_digits ls (c / 2))) (digit_holds vs l c (number vs ls) e)
    (rest_holds vs ls (c / 2) (half (value vs l) (number vs ls) e))
  where
    half : (b : Bool) (m : ℕ) → bit b + 2 * m ≡ c → m ≡ c / 2
    half true m e = omega arith
    half false m e = omega arith

digits_below : (n : ℕ) (ls : List Lit) (c : ℕ) → IsTrue (are_below n ls) → IsTrue (list_all (are_below n) (rest_digits ls c))
digits_below n [] c h = refl
digits_below n (l ∷ ls) c h =
    let parts = and_parts (is_below n l) (are_below n ls) h in
    and_from (are_below n ((if c % 2 == 1 then l else negation l) ∷ [])) (list_all (are_below n) (rest_digits ls (c / 2))) (by (c % 2 == 1) parts.0) (digits_below n ls (c / 2) parts.1)
  where
    by : (b : Bool) → IsTrue (is_below n l) → IsTrue (are_below n ((if b then l else negation l) ∷ []))
    by true hl = one_below n l hl
    by false hl = one_below n (negation l) (is_below-negation n l hl)

pub rest_below : (n : ℕ) (ls : List Lit) (rest : Option ℕ) → IsTrue (are_below n ls) → IsTrue (list_all (are_below n) (rest_clauses ls rest))
rest_below n ls None h = refl
rest_below n ls (Some c) h = digits_below n ls c h

-- what a number leaves that leaves all of these
pub rests_hold : (vs : List Bool) (rs : List Remainder) (n : ℕ) (ls : List Lit) → AllByRecursion (Leaves n) rs → joint_step rs ≤ most_joint → number vs ls ≡ n % joint_step rs → IsTrue (all_hold vs (rest_clauses ls (joint_rest rs)))
rests_hold vs rs n ls left few e = subst (λ o. IsTrue (all_hold vs (rest_clauses ls o))) (sym (joint_left n rs left few)) (rest_holds vs ls (n % joint_step rs) e)

-- a division, with clauses on its remainder
abbrev pub divided : List Lit → ℕ → Cnf → Cnf × List Lit
divided n step f = let d = with_division f n step in (d.formula, d.remainder)

pub division_hint : (base step : ℕ) (n : List Lit) (cs : List Lit → List (List Lit)) (P : List Bool → Type 0) → IsStable base P → IsTrue (are_below base n) → 0 < step → step ≤ most_joint →
    ((v : ℕ) (remainder : List Lit) → base ≤ v → IsTrue (are_below v remainder) → IsTrue (list_all (are_below v) (cs remainder))) →
    ((vs : List Bool) (remainder : List Lit) → P vs → number vs remainder ≡ number vs n % step → IsTrue (all_hold vs (cs remainder))) →
    Hint base (λ f. let d = with_division f n step in with_clauses d.formula (cs d.remainder)) P
division_hint base step n cs P stable hn some few below back =
    gate_hint base (divided n step) cs P stable
    (λ f low r. (division-facts f n step r (are_below-mono base f.vars low n hn) some (omega arith)).extends)
    (λ f. division-grows f n step)
    (λ f low r. let d = division-facts f n step r (are_below-mono base f.vars low n hn) some (omega arith) in
    below (with_division f n step).formula.vars (with_division f n step).remainder (let g = division-grows f n step in omega arith) d.remainder_below)
    (λ f vs low r gate p. let d = division-facts f n step r (are_below-mono base f.vars low n hn) some (omega arith) in
    let m = d.means vs gate in
    back vs (with_division f n step).remainder p (remainder_of (number vs n) (number vs (with_division f n step).quotient) (number vs (with_division f n step).remainder) step m.0 m.1))

pub rests_hint : (base : ℕ) (rs : List Remainder) (n : List Lit) (P : List Bool → Type 0) → IsStable base P → IsTrue (are_below base n) → HaveSteps rs → ((vs : List Bool) → P vs → AllByRecursion (Leaves (number vs n)) rs) →
    Hint base (with_rests rs n) P
rests_hint base rs n P stable hn have left =
    when_hint base (nat_le 2 (length rs) && nat_le (joint_step rs) most_joint) _ P (λ e.
    let few = leb-true (joint_step rs) most_joint (and_parts (nat_le 2 (length rs)) (nat_le (joint_step rs) most_joint) e).1 in
    division_hint base (joint_step rs) n (λ remainder. rest_clauses remainder (joint_rest rs)) P stable hn (joint_positive rs have) few
    (λ v remainder low h. rest_below v remainder (joint_rest rs) h)
    (λ vs remainder p is. rests_hold vs rs (number vs n) remainder (left vs p) few is))
