-- What a run did to a stream.
use Rattle.std.specs.Prelude.{◌≡◌, ◌≤◌, ℕ, List, [], Option, Some, IfSome}
use Rattle.css_io.specs.Io.{Rose, HasTaken, HasAdded}

-- a stream before and after: its bytes, those still to come or those written, where it tells them, and
-- how many faults it has counted
pub record Change : Type 0 where
  pub old : Option (List ℕ)
  pub new : Option (List ℕ)
  pub old_faults : ℕ
  pub new_faults : ℕ

-- the change from a state of a stream to another, by what tells its bytes and its faults
abbrev pub change_of : {S : Type 0} → (bytes : S → Option (List ℕ)) → (faults : S → ℕ) → S → S → Change
change_of bytes faults old new = record { old = bytes old; new = bytes new; old_faults = faults old; new_faults = faults new }

-- a read or a write failed, by the count of faults
abbrev pub HasFailed : Change → Type 0
HasFailed stream = Rose stream.old_faults stream.new_faults

-- so many bytes were taken from a source
abbrev pub Takes : ℕ → Change → Type 0
Takes count input = HasTaken count input.old input.new

-- no more than so many bytes were taken from a source
abbrev pub TakesAtMost : ℕ → Change → Type 0
TakesAtMost most input = (n : ℕ) × (n ≤ most) × Takes n input

-- these bytes are all that were left of a source, and nothing is left
abbrev pub IsAllRead : List ℕ → Change → Type 0
IsAllRead read input = IfSome input.old (λ bytes. (bytes ≡ read) × (input.new ≡ Some []))

-- these bytes were written to a sink, behind those that stood there
abbrev pub Adds : List ℕ → Change → Type 0
Adds bytes output = HasAdded bytes output.old output.new
