-- Along `~` the numbers behind the compounds rise.
use Rattle.std.proofs.Common.{Bool, IsTrue, List, [], ap, arith, false, length, map, refl, suc, true, zero, ℕ, ◌<◌, ◌^◌, ◌||◌, ◌∷◌, ◌≡◌, ◌≤◌}
use Rattle.std.proofs.lemmas.Bool.{and_from, false≢true}
use Rattle.formula_laws.proofs.Hints.Hint.{Hint, IsStable, below_hint, gate_hint, when_hint}
use Rattle.formula_laws.proofs.Numbers.Counted.{HasDigits, LinkSays, RunSays}
use Rattle.formula_laws.proofs.Numbers.Related.{ComparedFacts, compared, compared-facts}
use Rattle.formula_laws.specs.Hints.{is_later, is_later_at, with_rise, with_rises}
use Rattle.formula_laws.specs.Relations.{with_less}
use Rattle.cnf.proofs.ForCallers.{adder-grows, are_below-mono, at_least-grows, one_below}
use Rattle.cnf.specs.Cnf.{Cnf, is_in_range}
use Rattle.cnf.specs.Lits.{are_below, negation}
use Rattle.cnf.specs.Sums.{number, with_adder}
use Rattle.cnf.specs.Values.{holds}
use Rattle.cnf.specs.declared.lit.Lit.{Lit}
use Rattle.css_model.specs.declared.selector.Combinator.{Combinator}
use Rattle.css_model.specs.declared.selector.Combinator.TheVariants.{Child, Inside, Later, Next}

-- the sums are equal, and one number falls
rises_after : (links : List Combinator) (b a : ℕ → List Lit) (one : Lit) (vs : List Bool) → RunSays links b a one vs → (k : ℕ) → is_later_at links k ≡ true → number vs (a k) < number vs (a (suc k))
rises_after [] b a one vs says k e = absurd (false≢true e)
rises_after (link ∷ links) b a one vs says zero e = at link e says.0
  where
    at : (link : Combinator) → is_later link ≡ true → LinkSays link (b 0) (b 1) (a 0) (a 1) one vs → number vs (a 0) < number vs (a 1)
    at Inside e s = absurd (false≢true e)
    at Child e s = absurd (false≢true e)
    at Next e s = absurd (false≢true e)
    at Later e s = let falls = s.0 refl in let same = s.1 in omega arith
rises_after (link ∷ links) b a one vs says (suc k) e = rises_after links (λ i. b (suc i)) (λ i. a (suc i)) one vs says.1 k e

-- one number is less than another one
less_hint : (base : ℕ) (x y : List Lit) (P : List Bool → Type 0) → IsStable base P → IsTrue (are_below base x) → IsTrue (are_below base y) → ((vs : List Bool) → P vs → number vs x < number vs y) → Hint base (with_less [] x y) P
less_hint base x y P stable hx hy says =
    gate_hint base (compared x y) (λ top. (top ∷ []) ∷ []) P stable
    (λ f low r. (facts f low r).extends)
    (λ f. let g = adder-grows f y (map negation x) in let sum = with_adder f y (map negation x) in let h = at_least-grows sum.0 sum.1 (2 ^ length x) in omega arith)
    (λ f low r. and_from (are_below (compared x y f).0.vars ((compared x y f).1 ∷ [])) true (one_below (compared x y f).0.vars (compared x y f).1 (facts f low r).below) refl)
    (λ f vs low r gate p. and_from (holds vs ((compared x y f).1 ∷ [])) true (ap (λ b. b || false) ((facts f low r).no' vs gate (says vs p))) refl)
  where
    facts : (f : Cnf) → base ≤ f.vars → IsTrue (is_in_range f) → ComparedFacts f x y (compared x y f)
    facts f low r = compared-facts f x y r (are_below-mono base f.vars low x hx) (are_below-mono base f.vars low y hy)

pub rises_hint : (base w : ℕ) (links : List Combinator) (b a : ℕ → List Lit) (one : Lit) (P : List Bool → Type 0) → ((i : ℕ) → i ≤ length links → HasDigits base w (a i)) → IsStable base P →
    ((vs : List Bool) → P vs → RunSays links b a one vs) → Hint base (λ f. with_rises links a f) P
rises_hint base w links b a one P ha stable says =
    below_hint base (length links) (with_rise links a) P stable (λ k less.
    when_hint base (is_later_at links k) (with_less [] (a k) (a (suc k))) P (λ e.
    less_hint base (a k) (a (suc k)) P stable (ha k (omega arith)).0 (ha (suc k) (omega arith)).0 (λ vs p. rises_after links b a one vs (says vs p) k e)))
