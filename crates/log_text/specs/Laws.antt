-- Laws on the printed answer.
use Rattle.std.specs.Prelude.{◌≡◌, ◌≤◌, ℕ, Bool, List, length}
use Rattle.cnf.specs.Cnf.{Cnf, Satisfies}
use Rattle.cnf.specs.declared.lit.Lit.{Lit}
use Rattle.rup_check.specs.Checks.{IsRefutation}
use Rattle.rup_check.specs.Reading.{IsLogText}
use Rattle.log_text.specs.declared.check.TheConstants.{MAX_LOG_BYTES}
use Rattle.log_text.specs.CheckedTexts.{IsCheckedText, Passes, max_log_bytes, yes_text}

-- No values satisfy the formula of a log of which `yes` is printed.
abbrev pub YesRefutes : Type 0
YesRefutes =
    (text : List ℕ) (f : Cnf) (steps : List (List Lit)) → IsLogText text f steps → IsCheckedText text yes_text → (vs : List Bool) → Satisfies vs f → ⊥

-- Of the text of a log that refutes its formula, within the limit of bytes, `yes` is printed.
abbrev pub RefutingLogsPass : Type 0
RefutingLogsPass =
    (text : List ℕ) (f : Cnf) (steps : List (List Lit)) → IsLogText text f steps → IsRefutation f.clauses steps → length text ≤ max_log_bytes → Passes text

-- the constant is the limit of the definitions
abbrev pub LimitIsDefined : Type 0
LimitIsDefined = MAX_LOG_BYTES ≡ max_log_bytes
