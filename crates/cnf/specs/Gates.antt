-- Gates on literals, as clauses: the Tseitin encoding of "all" and "one of two", and the pairwise
-- encoding of "exactly one". Each takes a formula and gives the one that it becomes.
use Rattle.std.specs.Prelude.{ℕ, ◌≡◌, ◌+◌, ◌≤◌, Bool, List, [], ◌∷◌, ◌++◌, map, length, IsTrue}
use Rattle.cnf.specs.declared.lit.Lit.{Lit}
use Rattle.cnf.specs.Cnf.{Cnf, is_in_range, Satisfies}
use Rattle.cnf.specs.Lits.{negation, positive}

-- with one more variable, which is `positive f.vars`
abbrev pub with_fresh : Cnf → Cnf
with_fresh f = record f { vars = f.vars + 1 }

-- with more clauses
abbrev pub with_clauses : Cnf → List (List Lit) → Cnf
with_clauses f clauses = record f { clauses = f.clauses ++ clauses }

-- with one more clause
abbrev pub with_clause : Cnf → List Lit → Cnf
with_clause f clause = with_clauses f (clause ∷ [])

-- what a gate leaves of a formula: its clauses stay in front, and each list of values that satisfies
-- it can be continued to one that satisfies the new formula
pub record Extends (old new : Cnf) : Type 0 where
  pub more_vars : old.vars ≤ new.vars
  pub kept : (more : List (List Lit)) × (new.clauses ≡ old.clauses ++ more)
  pub in_range : IsTrue (is_in_range new)
  pub extendable : (vs : List Bool) → Satisfies vs old → (more : List Bool) × Satisfies (vs ++ more) new

-- at most so many variables and clauses more
pub record GrowsBy (old new : Cnf) (vars clauses : ℕ) : Type 0 where
  pub vars_bound : new.vars ≤ old.vars + vars
  pub clauses_bound : length new.clauses ≤ length old.clauses + clauses

-- not two of them: a clause for each two places
abbrev pub not_both : List Lit → List (List Lit)
not_both [] = []
not_both (l ∷ ls) = map (λ m. negation l ∷ negation m ∷ []) ls ++ not_both ls

-- one of the literals, and not two
unfoldable pub with_exactly_one : Cnf → List Lit → Cnf
with_exactly_one f lits = with_clauses f (lits ∷ not_both lits)

-- `gate` is true exactly where all the literals are
abbrev pub all_clauses : Lit → List Lit → List (List Lit)
all_clauses gate lits = map (λ l. negation gate ∷ l ∷ []) lits ++ (gate ∷ map negation lits) ∷ []

-- a fresh literal that is true exactly where all of these are
unfoldable pub with_and_gate : Cnf → List Lit → Cnf × Lit
with_and_gate f lits = let gate = positive f.vars in (with_clauses (with_fresh f) (all_clauses gate lits), gate)

-- a fresh literal that is true exactly where one of these two is
unfoldable pub with_or_gate : Cnf → Lit → Lit → Cnf × Lit
with_or_gate f a b =
    let gate = positive f.vars in
    (with_clauses (with_fresh f) ((gate ∷ negation a ∷ []) ∷ (gate ∷ negation b ∷ []) ∷ (negation gate ∷ a ∷ b ∷ []) ∷ []), gate)

-- a fresh literal that is true
unfoldable pub with_true : Cnf → Cnf × Lit
with_true f = let truth = positive f.vars in (with_clause (with_fresh f) (truth ∷ []), truth)

-- a fresh literal that is false
unfoldable pub with_false : Cnf → Cnf × Lit
with_false f = let falsehood = positive f.vars in (with_clause (with_fresh f) (negation falsehood ∷ []), falsehood)
