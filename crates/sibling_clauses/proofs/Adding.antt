-- Clauses that are added one part after the other.
use Rattle.std.proofs.Common.{List, [], ap, arith, false, suc, sym, true, ℕ, ◌++◌, ◌+◌, ◌∙◌, ◌∷◌, ◌≡◌}
use Rattle.std.proofs.lemmas.List.{append_assoc, append-nil}
use Rattle.cnf.specs.Cnf.{Cnf}
use Rattle.cnf.specs.Gates.{with_clauses}
use Rattle.cnf.specs.declared.lit.Lit.{Lit}
use Rattle.cnf.specs.Lits.{negation}
use Rattle.formula_laws.specs.Counts.{implied}
use Rattle.formula_laws.specs.Path.{each_below}
use Rattle.formula_laws.specs.Relations.{same_digits}
use Rattle.formula_laws.specs.Root.{top_clauses}
use Rattle.sibling_clauses.proofs.Implied.{implied_both}

-- two parts are one
pub added_twice : (f : Cnf) (a b : List (List Lit)) → with_clauses (with_clauses f a) b ≡ with_clauses f (a ++ b)
added_twice f a b = ap (λ cs. record f { clauses = cs }) (append_assoc f.clauses a b)

-- no part
pub added_none : (f : Cnf) → with_clauses f [] ≡ f
added_none f = ap (λ cs. record f { clauses = cs }) (append-nil f.clauses)

pub ruleset same_added = (added_twice, added_none)

-- what is made for one number more
pub each_more : {A : Type 0} (k : ℕ) (make : ℕ → List A) → each_below (k + 1) make ≡ each_below k make ++ make k
each_more k make = ap (λ (n : ℕ). each_below n make) (let e : k + 1 ≡ suc k = omega arith in e)

pub added_each : (f g h : Cnf) (k : ℕ) (make : ℕ → List (List Lit)) → g ≡ with_clauses f (each_below k make) → h ≡ with_clauses g (make k) → h ≡ with_clauses f (each_below (k + 1) make)
added_each f g h k make eg eh = eh ∙ ap (λ i. with_clauses i (make k)) eg ∙ added_twice f (each_below k make) (make k) ∙ ap (with_clauses f) (sym (each_more k make))

-- the root, in two or three parts
pub top_up : (f g h : Cnf) (l : Lit) (b a : List Lit) → g ≡ with_clauses f (implied l (same_digits b [])) → h ≡ with_clauses g (implied l (same_digits a [])) → h ≡ with_clauses f (top_clauses l true b a)
top_up f g h l b a eg eh =
    eh ∙ ap (λ k. with_clauses k (implied l (same_digits a []))) eg ∙ added_twice f (implied l (same_digits b [])) (implied l (same_digits a []))
    ∙ ap (with_clauses f) (sym (implied_both l (same_digits b []) (same_digits a [])))

pub top_side : (f e g h : Cnf) (l : Lit) (b a : List Lit) → e ≡ with_clauses f ((negation l ∷ []) ∷ []) → g ≡ with_clauses e (implied l (same_digits b [])) → h ≡ with_clauses g (implied l (same_digits a [])) → h ≡ with_clauses f (top_clauses l false b a)
top_side f e g h l b a ee eg eh = top_up e g h l b a eg eh ∙ ap (λ k. with_clauses k (implied l (same_digits b [] ++ same_digits a []))) ee ∙ added_twice f ((negation l ∷ []) ∷ []) (implied l (same_digits b [] ++ same_digits a []))

pub ruleset top_added = (top_up, top_side)
