-- The text of a log checked, and the text of the answer (own).
use Rattle.std.specs.Prelude.{◌≡◌, ◌<◌, ◌≤◌, ℕ, List, ◌++◌, length, codes, decimal}
use Rattle.cnf.specs.Cnf.{Cnf}
use Rattle.cnf.specs.declared.lit.Lit.{Lit}
use Rattle.rup_check.specs.Checks.{IsChecked}
use Rattle.rup_check.specs.Reading.{IsBadLine, IsLogText}
use Rattle.rup_check.specs.declared.log.Checked.{Checked}
use Rattle.rup_check.specs.declared.log.Checked.TheVariants.{Yes, No}
use Rattle.rup_check.specs.declared.log.LogError.{LogError}
use Rattle.rup_check.specs.declared.log.LogError.TheVariants as unread
use Rattle.log_text.specs.declared.error.CheckError.{CheckError}
use Rattle.log_text.specs.declared.error.CheckError.TheVariants.{TooLong, BadLine, NoMemory}

-- the most bytes of a log that is checked
abbrev pub max_log_bytes : ℕ
max_log_bytes = 134217728

-- the line of an answer
abbrev pub yes_text : List ℕ
yes_text = codes "yes\n"

abbrev pub checked_text : Checked → List ℕ
checked_text Yes = yes_text
checked_text (No number) = codes "no " ++ decimal number ++ codes "\n"

-- What is printed of a text: it is that of a log, and this is the line of the answer for the log.
pub record IsCheckedText (text answer : List ℕ) : Type 0 where
  pub short : length text ≤ max_log_bytes
  pub formula : Cnf
  pub steps : List (List Lit)
  pub is_log : IsLogText text formula steps
  pub checked : Checked
  pub is_checked : IsChecked formula.clauses steps checked
  pub answer_is : answer ≡ checked_text checked

-- Why a text is not checked: its length is told before a bad line.
abbrev pub Refuses : List ℕ → CheckError → Type 0
Refuses text TooLong = max_log_bytes < length text
Refuses text (BadLine number) = (length text ≤ max_log_bytes) × IsBadLine text number
Refuses text NoMemory = length text ≤ max_log_bytes

-- an error of the reading
abbrev pub check_error : LogError → CheckError
check_error (unread.BadLine number) = BadLine number
check_error unread.NoMemory = NoMemory

-- `yes` is printed of a text, and nothing else: only want of memory may come in its place
pub record Passes (text : List ℕ) : Type 0 where
  pub only_yes : (answer : List ℕ) → IsCheckedText text answer → answer ≡ yes_text
  pub not_refused : (error : CheckError) → Refuses text error → error ≡ NoMemory
