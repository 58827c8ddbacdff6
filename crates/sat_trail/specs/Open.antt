-- The variables without a value.
use Rattle.std.specs.Prelude.{◌≡◌, ◌+◌, ◌<◌, ℕ, Bool, true, false, Option, None, List, length, slice_index_or}
use Rattle.sat_trail.specs.declared.entry.Entry.{Entry}
use Rattle.sat_trail.specs.Trail.{entry_of}

-- in a table of places, neither literal of the variable has one
abbrev pub IsOpen : List (Option ℕ) → ℕ → Type 0
IsOpen places v = (slice_index_or places (v + v) None ≡ None) × (slice_index_or places (v + v + 1) None ≡ None)

-- a list says of each variable whether it is in the heap, and each without a value is
pub record HasOpen (vars : ℕ) (entries : List Entry) (is_in : List Bool) : Type 0 where
  pub table : length is_in ≡ vars
  pub in_heap : (v : ℕ) → v < vars → entry_of entries v ≡ None → slice_index_or is_in v false ≡ true
