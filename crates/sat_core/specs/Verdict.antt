-- What an answer of the solver says.
use Rattle.std.specs.Prelude.{◌≡◌, ◌≢◌, ◌<◌, ◌^◌, ℕ, Bool, false, List, [], ◌∷◌, ◌++◌, length, IsTrue}
use Rattle.cnf.specs.declared.lit.Lit.{Lit}
use Rattle.cnf.specs.Budgets.{no_limit, IsWithin}
use Rattle.cnf.specs.Cnf.{Cnf, Satisfies}
use Rattle.cnf.specs.Propagation.{IsLedger}
use Rattle.sat_core.specs.declared.verdict.Verdict.{Verdict}
use Rattle.sat_core.specs.declared.verdict.Verdict.TheVariants.{Model, NoModel, Spent}
use Rattle.sat_watch.specs.Nonempty.{are_nonempty}

-- a ledger that ends in the empty clause, the only one that it has, within the budget before it
pub record Refutes (f : Cnf) (budget : ℕ) (ledger : List (List Lit)) : Type 0 where
  pub others : List (List Lit)
  pub is_last : ledger ≡ others ++ [] ∷ []
  pub logged : IsLedger f ledger
  pub nonempty : IsTrue (are_nonempty others)
  pub within : IsWithin budget (length others)

-- no values satisfy the formula, and the ledger shows it, where no clause of the formula itself is empty
pub record HasNoModel (f : Cnf) (budget : ℕ) (ledger : List (List Lit)) : Type 0 where
  pub none : (vs : List Bool) → Satisfies vs f → ⊥
  pub by_empty : are_nonempty f.clauses ≡ false → ledger ≡ []
  pub by_ledger : IsTrue (are_nonempty f.clauses) → Refutes f budget ledger

-- a ledger that uses up its budget, without the empty clause
pub record UsesUp (f : Cnf) (budget : ℕ) (ledger : List (List Lit)) : Type 0 where
  pub limited : budget ≢ no_limit
  pub nonempty_formula : IsTrue (are_nonempty f.clauses)
  pub logged : IsLedger f ledger
  pub nonempty : IsTrue (are_nonempty ledger)
  pub used_up : length ledger ≡ budget
  pub below : budget < 3 ^ f.vars

-- what each answer says of the formula
abbrev pub IsAnswer : Cnf → ℕ → Verdict → Type 0
IsAnswer f budget (Model vs) = Satisfies vs.items f
IsAnswer f budget (NoModel ledger) = HasNoModel f budget ledger
IsAnswer f budget (Spent ledger) = UsesUp f budget ledger
