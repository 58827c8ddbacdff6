-- Writing a text that a command made, and its report.
use Rattle.std.specs.Prelude.{◌⊎◌, ℕ, ◌<◌, List, [], length, take}
use Rattle.cssmin_run.specs.Change.{Change, HasFailed, Adds}
use Rattle.cssmin_run.specs.Telling.{Tells}
use Rattle.cssmin_run.specs.declared.status.Status.{Status}
use Rattle.cssmin_run.specs.declared.status.Status.TheVariants.{Done, WriteFault, NoMemory}

-- a front of a text was written, and a write failed
abbrev pub AddsFront : List ℕ → Change → Type 0
AddsFront text output = HasFailed output × ((count : ℕ) × (count < length text) × Adds (take count text) output)

-- Only a front of a text was written, and that was told; or all of it was, and only a front of its report.
abbrev pub Stops : (text report : List ℕ) → (output err : Change) → Type 0
Stops text report output err = (AddsFront text output × Tells WriteFault err) ⊎ (Adds text output × AddsFront report err)

-- What writing a text and then its report did, by the status: all of both was written, or it stopped.
abbrev pub Writes : (text report : List ℕ) → Status → (output err : Change) → Type 0
Writes text report Done output err = Adds text output × Adds report err
Writes text report WriteFault output err = Stops text report output err
Writes text report status output err = ⊥

-- What a command that makes a text of this kind and writes it did, by its status.
abbrev pub WritesSome : (kind : List ℕ → Type 0) → Status → (output err : Change) → Type 0
WritesSome kind Done output err = (text : List ℕ) × kind text × Writes text [] Done output err
WritesSome kind WriteFault output err = (text : List ℕ) × kind text × Writes text [] WriteFault output err
WritesSome kind NoMemory output err = Tells NoMemory err
WritesSome kind status output err = ⊥
