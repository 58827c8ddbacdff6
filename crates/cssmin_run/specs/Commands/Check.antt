-- What `check` does: a log on the input, on the output whether it refutes its formula.
use Rattle.std.specs.Prelude.{◌≡◌, ℕ, List, Option, None}
use Rattle.log_text.specs.CheckedTexts as log
use Rattle.log_text.specs.declared.error.CheckError.TheVariants as unchecked
use Rattle.overlap.specs.PairsParts.{PairsParts}
use Rattle.cssmin_run.specs.Change.{Change}
use Rattle.cssmin_run.specs.Placed.{nowhere}
use Rattle.cssmin_run.specs.Tasks.{Does, Silent}
use Rattle.cssmin_run.specs.declared.status.LogFault.TheVariants.{TooLong, BadLine}
use Rattle.cssmin_run.specs.declared.status.Status.{Status}
use Rattle.cssmin_run.specs.declared.status.Status.TheVariants.{LogRefused}

-- the text is the answer for the log that was read; no answers for pairs are held
abbrev pub Checks : (read text : List ℕ) (held : Option PairsParts) → Type 0
Checks read text held = log.IsCheckedText read text × (held ≡ None)

-- a log is refused for its length, or for its first line that is not of a log
abbrev pub CheckRefuses : Status → List ℕ → Type 0
CheckRefuses (LogRefused TooLong) read = log.Refuses read unchecked.TooLong
CheckRefuses (LogRefused (BadLine line)) read = log.Refuses read (unchecked.BadLine line)
CheckRefuses status read = ⊥

abbrev pub CheckDoes : Status → (input output err : Change) → (held : Option PairsParts) → Type 0
CheckDoes status input output err held = Does log.max_log_bytes nowhere (Silent Checks) CheckRefuses status input output err held
