-- Laws on logs.
use Rattle.std.specs.Prelude.{◌≡◌, ◌≤◌, ℕ, List, length, IsTrue}
use Rattle.cnf.specs.declared.lit.Lit.{Lit}
use Rattle.cnf.specs.Cnf.{Cnf, is_in_range}
use Rattle.cnf.specs.Propagation.{IsLedger}
use Rattle.rup_check.specs.declared.log.Checked.{Checked}
use Rattle.rup_check.specs.declared.log.Checked.TheVariants.{Yes}
use Rattle.rup_check.specs.Checks.{EndsEmpty, IsChecked, IsRefutation}
use Rattle.rup_check.specs.Reading.{IsBadLine, IsLog, IsLogText, max_clauses, max_vars}

-- Where a log refutes its formula, the answer is yes.
abbrev pub RefutationsPass : Type 0
RefutationsPass = (formula steps : List (List Lit)) (answer : Checked) → IsRefutation formula steps → IsChecked formula steps answer → answer ≡ Yes

-- Two logs have different texts.
abbrev pub TextsAreOfOneLog : Type 0
TextsAreOfOneLog =
    (text : List ℕ) (f g : Cnf) (xs ys : List (List Lit)) → IsLogText text f xs → IsLogText text g ys → (f ≡ g) × (xs ≡ ys)

-- No line of a log's text is bad.
abbrev pub LogsHaveNoFault : Type 0
LogsHaveNoFault = (text : List ℕ) (f : Cnf) (steps : List (List Lit)) (number : ℕ) → IsLogText text f steps → IsBadLine text number → ⊥

-- A ledger of a formula within the limits is the steps of a log.
abbrev pub LedgersAreLogs : Type 0
LedgersAreLogs =
    (f : Cnf) (ledger : List (List Lit)) → f.vars ≤ max_vars → length f.clauses ≤ max_clauses → IsTrue (is_in_range f) → IsLedger f ledger → IsLog f ledger

-- A ledger refutes its formula, where a clause of that is empty, or the last of the ledger.
abbrev pub LedgersRefute : Type 0
LedgersRefute = (f : Cnf) (ledger : List (List Lit)) → IsLedger f ledger → EndsEmpty f.clauses ledger → IsRefutation f.clauses ledger
