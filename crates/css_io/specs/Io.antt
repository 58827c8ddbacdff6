-- What a read and a write do, and when a count has risen.
use Rattle.std.specs.Prelude.{◌≡◌, ◌⊎◌, ◌↔◌, ℕ, ◌+◌, ◌<◌, ◌≤◌, ◌++◌, min, List, [], Option, Some, Result, Ok, Err, length, take, drop, IfSome}

-- the last value of a count, at which it stays
abbrev pub last_count : ℕ
last_count = 18446744073709551615

-- the count after one more
abbrev pub next_count : ℕ → ℕ
next_count n = min (n + 1) last_count

-- the count rose, or stands at its last value
abbrev pub Rose : ℕ → ℕ → Type 0
Rose old new = (old < new) ⊎ (new ≡ last_count)

-- of the bytes that were left, the first n are gone
abbrev pub HasTaken : ℕ → Option (List ℕ) → Option (List ℕ) → Type 0
HasTaken n old new = IfSome old (λ bytes. (n ≤ length bytes) × (new ≡ Some (drop n bytes)))

-- behind the bytes that were written, these were
abbrev pub HasAdded : List ℕ → Option (List ℕ) → Option (List ℕ) → Type 0
HasAdded bytes old new = IfSome old (λ before. new ≡ Some (before ++ bytes))

-- a read into a buffer, which it left as `into`: the first n of the bytes that were left stand there
-- and are gone, none only where none was left or there was no room; a read that failed took none
abbrev pub GivesFirst : {E : Type 0} → Option (List ℕ) → Option (List ℕ) → List ℕ → Result ℕ E → Type 0
GivesFirst old new into (Ok n) = HasTaken n old new × IfSome old (λ bytes.
    (take n into ≡ take n bytes) × (0 < length into → (n ≡ 0) ↔ (bytes ≡ [])))
GivesFirst old new into (Err e) = new ≡ old

-- a count of faults over one read or write: it rose where that failed, and never falls
abbrev pub CountsFaults : {E : Type 0} → ℕ → Result ℕ E → ℕ → Type 0
CountsFaults old (Ok n) new = old ≤ new
CountsFaults old (Err e) new = Rose old new

-- a write of `from`: its first n bytes were written, at least one if there was one; a write that
-- failed wrote none
abbrev pub TakesFirst : {E : Type 0} → Option (List ℕ) → Option (List ℕ) → List ℕ → Result ℕ E → Type 0
TakesFirst old new from (Ok n) =
    (n ≤ length from) × (0 < length from → 0 < n) × HasAdded (take n from) old new
TakesFirst old new from (Err e) = new ≡ old
