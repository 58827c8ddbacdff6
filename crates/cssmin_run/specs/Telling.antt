-- What a run tells on standard error.
use Rattle.std.specs.Prelude.{◌⊎◌, ℕ, ◌≤◌, List, length, take}
use Rattle.cssmin_run.specs.Change.{Change, HasFailed, Adds}
use Rattle.cssmin_run.specs.Status.{IsMessage}
use Rattle.cssmin_run.specs.declared.status.Status.{Status}

-- A text was written, or a front of it where a write failed.
abbrev pub IsTold : List ℕ → (err : Change) → Type 0
IsTold text err = (n : ℕ) × Adds (take n text) err × ((length text ≤ n) ⊎ HasFailed err)

-- The status's message was written to standard error, or a front of it where a write failed.
abbrev pub Tells : Status → (err : Change) → Type 0
Tells status err = (text : List ℕ) × IsMessage status text × IsTold text err
