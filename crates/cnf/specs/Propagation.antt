-- Unit propagation, and clauses that follow by it from a formula and the negations of their own
-- literals: reverse unit propagation (RUP), as proofs of unsatisfiability use it.
use Rattle.std.specs.Prelude.{◌≢◌, ℕ, Bool, true, not, ◌&&◌, ◌||◌, IsTrue, List, [], ◌∷◌, ◌++◌, map}
use Rattle.std.specs.List.{list_all, list_any}
use Rattle.cnf.specs.declared.lit.Lit.{Lit}
use Rattle.cnf.specs.Cnf.{Cnf}
use Rattle.cnf.specs.Lits.{negation, same, is_among, are_below}

-- whether a literal is false where those of the clause are false and those of the trail are true
abbrev pub is_refuted : List Lit → List Lit → Lit → Bool
is_refuted clause trail l = is_among clause l || is_among (map negation trail) l

-- whether unit propagation finds m: all other literals of some clause of the formula are false
abbrev pub finds : List (List Lit) → List Lit → List Lit → Lit → Bool
finds formula clause trail m =
    list_any (λ k. is_among k m && list_all (λ l. same l m || is_refuted clause trail l) k) formula

-- whether unit propagation finds each literal of a list, with the trail and those before it
abbrev pub finds_each : List (List Lit) → List Lit → List Lit → List Lit → Bool
finds_each formula clause trail [] = true
finds_each formula clause trail (m ∷ ms) = finds formula clause trail m && finds_each formula clause (trail ++ m ∷ []) ms

-- whether all literals of some clause of the formula are false
abbrev pub is_conflict : List (List Lit) → List Lit → List Lit → Bool
is_conflict formula clause trail = list_any (λ k. list_all (is_refuted clause trail) k) formula

-- where the literals of the clause are false, unit propagation over the formula ends in a conflict
pub record IsForced (formula : List (List Lit)) (clause : List Lit) : Type 0 where
  pub found : List Lit
  pub each_found : IsTrue (finds_each formula clause [] found)
  pub conflict : IsTrue (is_conflict formula clause found)

-- whether the trail leaves a literal true or open
abbrev pub is_open : List Lit → Lit → Bool
is_open trail l = not (is_among trail (negation l))

-- whether no literal stands beside its negation
abbrev pub is_consistent : List Lit → Bool
is_consistent trail = list_all (is_open trail) trail

-- whether the trail makes every literal of the clause other than l false
abbrev pub denies_others : List Lit → Lit → List Lit → Bool
denies_others clause l trail = list_all (λ m. same m l || is_among trail (negation m)) clause

-- whether two different literals are not false
abbrev pub has_two_open : List Lit → List Lit → Bool
has_two_open trail k = list_any (λ a. list_any (λ b. not (same a b) && (is_open trail a && is_open trail b)) k) k

-- whether there is nothing left to propagate: each clause has a true literal, or two that are not false
abbrev pub is_at_rest : List (List Lit) → List Lit → Bool
is_at_rest formula trail = list_all (λ k. list_any (is_among trail) k || has_two_open trail k) formula

-- the clause would assert one of its literals, which unit propagation does not find without it: a
-- trail on which the others are false comes to rest and leaves this one open
pub record Adds (formula : List (List Lit)) (clause : List Lit) : Type 0 where
  pub lit : Lit
  pub trail : List Lit
  pub of_clause : IsTrue (is_among clause lit)
  pub others_denied : IsTrue (denies_others clause lit trail)
  pub lit_open : IsTrue (not (is_among trail lit) && is_open trail lit)
  pub consistent : IsTrue (is_consistent trail)
  pub at_rest : IsTrue (is_at_rest formula trail)

-- whether no literal stands twice
abbrev pub is_distinct : List Lit → Bool
is_distinct [] = true
is_distinct (l ∷ ls) = not (is_among ls l) && is_distinct ls

-- whether a clause contains all literals of some clause of the formula
abbrev pub is_subsumed : List (List Lit) → List Lit → Bool
is_subsumed formula clause = list_any (λ k. list_all (is_among clause) k) formula

-- a clause that may be logged after those of the formula
pub record IsLogged (vars : ℕ) (formula : List (List Lit)) (clause : List Lit) : Type 0 where
  pub forced : IsForced formula clause
  pub adds : clause ≢ [] → Adds formula clause
  pub in_range : IsTrue (are_below vars clause)
  pub distinct : IsTrue (is_distinct clause)
  pub consistent : IsTrue (is_consistent clause)
  pub not_subsumed : IsTrue (not (is_subsumed formula clause))

-- each clause of a log, after those of the formula and the ones before it
abbrev pub EachLogged : ℕ → List (List Lit) → List (List Lit) → Type 0
EachLogged vars formula [] = Unit {0}
EachLogged vars formula (clause ∷ clauses) =
    IsLogged vars formula clause × EachLogged vars (formula ++ clause ∷ []) clauses

-- the log of a solver for the formula
abbrev pub IsLedger : Cnf → List (List Lit) → Type 0
IsLedger f clauses = EachLogged f.vars f.clauses clauses
