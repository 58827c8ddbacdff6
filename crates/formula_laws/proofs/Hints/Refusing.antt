-- Hints on one test that must not hold.
use Rattle.std.proofs.Common.{Bool, IsTrue, List, [], ap, arith, false, inl, inr, not, refl, true, ℕ, ◌%◌, ◌+◌, ◌<◌, ◌||◌, ◌∙◌, ◌∷◌, ◌≡◌, ◌≤◌, ◌⊎◌, Option}
use Rattle.std.proofs.lemmas.Bool.{and_from, false≢true}
use Rattle.std.specs.Bool.{MatchBool}
use Rattle.std.specs.List.{AllByRecursion, cons_option, filter_map, list_all, list_any}
use Rattle.std.specs.Prelude.{None, Some, if◌then◌else◌}
use Rattle.cnf.proofs.ForCallers.{are_below-mono, at_least-facts, at_least-grows, is_below-negation, value-negation}
use Rattle.cnf.specs.Cnf.{Cnf}
use Rattle.cnf.specs.Gates.{with_clauses}
use Rattle.cnf.specs.Lits.{are_below, is_below, negation}
use Rattle.cnf.specs.Numbers.{with_at_least}
use Rattle.cnf.specs.Sums.{number, option_below}
use Rattle.cnf.specs.Values.{all_hold, holds, value}
use Rattle.cnf.specs.declared.lit.Lit.{Lit}
use Rattle.formula_laws.proofs.Hints.Hint.{Hint, IsStable, both_hints, gate_hint, no_hint, when_hint}
use Rattle.formula_laws.proofs.Hints.Joints.{GivenBelow, IsGiven, JointSays, aside_further, left_means}
use Rattle.formula_laws.proofs.Hints.Needing.{IsBounded}
use Rattle.formula_laws.proofs.Hints.Runs.{IsAside}
use Rattle.formula_laws.proofs.Items.MoreItems.{implies_back}
use Rattle.formula_laws.specs.Refused.{failing, given_clause, is_met, met_clause, with_each, with_refused_test}
use Rattle.formula_laws.specs.declared.count.Count.{Count}
use Rattle.formula_laws.specs.declared.joint.Joint.{Joint}
use Rattle.formula_laws.specs.declared.refused.Refused.{Refused}
use Rattle.remainders.specs.declared.remainder.Remainder.{Remainder}

-- the bound fails, or it holds
fails : (vs : List Bool) (rises : Bool) (g : Lit) (bound n : ℕ) → MatchBool (value vs g) (bound ≤ n) (n < bound) → (value vs (if rises then negation g else g) ≡ true) ⊎ MatchBool rises (bound ≤ n) (n < bound)
fails vs rises g bound n m = by rises (value vs g) refl m
  where
    by : (rises b : Bool) → value vs g ≡ b → MatchBool b (bound ≤ n) (n < bound) → (value vs (if rises then negation g else g) ≡ true) ⊎ MatchBool rises (bound ≤ n) (n < bound)
    by true true e m = inr m
    by true false e m = inl (value-negation vs g ∙ ap not e)
    by false true e m = inl e
    by false false e m = inr m

failing_below : (v : ℕ) (rises : Bool) (g : Lit) → IsTrue (is_below v g) → IsTrue (is_below v (if rises then negation g else g))
failing_below v true g h = is_below-negation v g h
failing_below v false g h = h

or_first : (a b : Bool) → a ≡ true → IsTrue (a || b)
or_first true b e = refl
or_first false b e = absurd (false≢true e)

or_rest : (a b : Bool) → IsTrue b → IsTrue (a || b)
or_rest true b h = refl
or_rest false b h = h

given_back : (vs : List Bool) (given : Option Lit) (ls : List Lit) → (IsGiven given vs → IsTrue (holds vs ls)) → IsTrue (holds vs (given_clause given ls))
given_back vs None ls h = h tt
given_back vs (Some l) ls h = implies_back vs l ls h

given_below : (v : ℕ) (given : Option Lit) (ls : List Lit) → IsTrue (option_below v given) → IsTrue (are_below v ls) → IsTrue (are_below v (given_clause given ls))
given_below v None ls hg hl = hl
given_below v (Some l) ls hg hl = and_from (is_below v (negation l)) (are_below v ls) (is_below-negation v l hg) hl

met_hold : (vs : List Bool) (count : Count) (far : ℕ) (r : Remainder) (ls : List Lit) (Q : Joint → Type 0) → ((joint : Joint) → Q joint → is_met count far r joint ≡ true → IsGiven joint.given vs → IsTrue (holds vs ls)) →
    (joints : List Joint) → AllByRecursion Q joints → IsTrue (all_hold vs (filter_map (met_clause count far r ls) joints))
met_hold vs count far r ls Q each [] says = refl
met_hold vs count far r ls Q each (joint ∷ joints) says =
    by (is_met count far r joint) (λ e. given_back vs joint.given ls (each joint says.0 e)) (met_hold vs count far r ls Q each joints says.1)
  where
    by : (b : Bool) → (b ≡ true → IsTrue (holds vs (given_clause joint.given ls))) → IsTrue (all_hold vs (filter_map (met_clause count far r ls) joints)) →
        IsTrue (all_hold vs (cons_option (if b then Some (given_clause joint.given ls) else None) (filter_map (met_clause count far r ls) joints)))
    by true h rest = and_from (holds vs (given_clause joint.given ls)) (all_hold vs (filter_map (met_clause count far r ls) joints)) (h refl) rest
    by false h rest = rest

met_below : (v : ℕ) (count : Count) (far : ℕ) (r : Remainder) (ls : List Lit) → IsTrue (are_below v ls) → (joints : List Joint) → AllByRecursion (GivenBelow v) joints → IsTrue (list_all (are_below v) (filter_map (met_clause count far r ls) joints))
met_below v count far r ls hl [] says = refl
met_below v count far r ls hl (joint ∷ joints) says = by (is_met count far r joint) (met_below v count far r ls hl joints says.1)
  where
    by : (b : Bool) → IsTrue (list_all (are_below v) (filter_map (met_clause count far r ls) joints)) → IsTrue (list_all (are_below v) (cons_option (if b then Some (given_clause joint.given ls) else None) (filter_map (met_clause count far r ls) joints)))
    by true rest = and_from (are_below v (given_clause joint.given ls)) (list_all (are_below v) (filter_map (met_clause count far r ls) joints)) (given_below v joint.given ls says.0 hl) rest
    by false rest = rest

-- what is known of a test: the number of the run's first compound, what it leaves, and who passes where the test has what it needs
pub record RefusedSays (count : Count) (joints : List Joint) (far : ℕ) (n others : List Lit) (vs : List Bool) (r : Refused) : Type 0 where
  pub some : 0 < r.rest.step
  pub first : ℕ
  pub known : AllByRecursion (JointSays count vs first) joints
  pub apart : IsAside count first (number vs n) 0 far
  pub denied : number vs n % r.rest.step ≡ r.rest.rest → IsBounded r (number vs n) → IsTrue (holds vs others)

pub refused_hint : (base : ℕ) (count : Count) (joints : List Joint) (far : ℕ) (n others : List Lit) (r : Refused) (P : List Bool → Type 0) → IsStable base P → IsTrue (are_below base n) → IsTrue (are_below base others) →
    ((v : ℕ) → base ≤ v → AllByRecursion (GivenBelow v) joints) → ((vs : List Bool) → P vs → RefusedSays count joints far n others vs r) → Hint base (with_refused_test count joints far n others r) P
refused_hint base count joints far n others r P stable hn ho hj says =
    when_hint base (list_any (is_met count far r.rest) joints) (λ f. let g = failing n r f in with_clauses g.0 (clauses g.1)) P (λ _.
    gate_hint base (failing n r) clauses P stable
    (λ f low i. (at_least-facts f n r.bound i (are_below-mono base f.vars low n hn)).extends)
    (λ f. at_least-grows f n r.bound)
    (λ f low i.
    let a = at_least-facts f n r.bound i (are_below-mono base f.vars low n hn) in
    let more = a.extends.more_vars in
    let up : base ≤ (with_at_least f n r.bound).0.vars = omega arith in
    met_below (with_at_least f n r.bound).0.vars count far r.rest ((failing n r f).1 ∷ others)
    (and_from (is_below (with_at_least f n r.bound).0.vars (failing n r f).1) (are_below (with_at_least f n r.bound).0.vars others) (failing_below (with_at_least f n r.bound).0.vars r.rises (with_at_least f n r.bound).1 a.below)
    (are_below-mono base (with_at_least f n r.bound).0.vars up others ho)) joints (hj (with_at_least f n r.bound).0.vars up))
    (λ f vs low i gate p.
    let a = at_least-facts f n r.bound i (are_below-mono base f.vars low n hn) in
    let k = says vs p in
    met_hold vs count far r.rest ((failing n r f).1 ∷ others) (JointSays count vs k.first) (λ joint s met given. one vs (failing n r f).1 k (fails vs r.rises (with_at_least f n r.bound).1 r.bound (number vs n) (a.means vs gate)) joint s met given) joints k.known))
  where
    clauses : Lit → List (List Lit)
    clauses g = filter_map (met_clause count far r.rest (g ∷ others)) joints

    one : (vs : List Bool) (g : Lit) (k : RefusedSays count joints far n others vs r) → (value vs g ≡ true) ⊎ IsBounded r (number vs n) →
        (joint : Joint) → JointSays count vs k.first joint → is_met count far r.rest joint ≡ true → IsGiven joint.given vs → IsTrue (holds vs (g ∷ others))
    one vs g k (inl fails) joint s met given = or_first (value vs g) (holds vs others) fails
    one vs g k (inr holds') joint s met given =
        let t = s given in
        or_rest (value vs g) (holds vs others) (k.denied (left_means count t.0 (number vs n) joint.right (joint.left + far) r.rest joint.step joint.rest k.some (aside_further count t.0 k.first (number vs n) joint.right joint.left far t.1 k.apart) t.2 met) holds')

-- a part for each item, by what is known of all
pub each_hint : {A : Type 0} (base : ℕ) (step : A → Cnf → Cnf) (P : List Bool → Type 0) (D : List Bool → A → Type 0) → IsStable base P → ((x : A) → ((vs : List Bool) → P vs → D vs x) → Hint base (step x) P) →
    (xs : List A) → ((vs : List Bool) → P vs → AllByRecursion (D vs) xs) → Hint base (λ f. with_each step xs f) P
each_hint base step P D stable each [] says = no_hint base P
each_hint base step P D stable each (x ∷ xs) says =
    both_hints base (step x) (λ f. with_each step xs f) P stable (each x (λ vs p. (says vs p).0)) (each_hint base step P D stable each xs (λ vs p. (says vs p).1))
