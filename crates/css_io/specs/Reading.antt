-- What reading all of a source did, read by read.
use Rattle.std.specs.Prelude.{◌≡◌, ℕ, zero, suc, ◌+◌, ◌<◌, ◌≤◌, Result, Ok, Err, Vec, vec_len}
use Rattle.std.specs.Global.{Global}
use Rattle.css_io.specs.declared.moves.ReadError.{ReadError}
use Rattle.css_io.specs.declared.moves.ReadError.TheVariants.{ReadFault, TooLong, NoMemory}
use Rattle.css_io.specs.declared.traits.Failed.{Failed}

-- So many reads lead from one state of a source to another. Each gave at least one byte, and together
-- they gave `count`. `gives` says which answer one read may give, and which state it leaves.
abbrev pub ReadsOn : {S : Type 0} → (gives : S → Result ℕ Failed → S → Type 0) → (reads count : ℕ) → S → S → Type 0
ReadsOn gives zero count old new = (count ≡ 0) × (new ≡ old)
ReadsOn {S = S} gives (suc reads) count old new =
    (before n : ℕ) × (between : S) × ReadsOn gives reads before old between × gives between (Ok n) new × (0 < n) × (count ≡ before + n)

-- some number of reads, each of at least one byte, gave so many bytes
abbrev pub Gave : {S : Type 0} → (gives : S → Result ℕ Failed → S → Type 0) → (count : ℕ) → S → S → Type 0
Gave gives count old new = (reads : ℕ) × ReadsOn gives reads count old new

-- The reads of one call, by what it answers. All but the last one gave at least one byte. The last one
-- found the end where all was read, and failed where the answer is a fault; where there was too much,
-- it gave the byte past the limit. Without memory there was no read.
abbrev pub ReadsAll : {S : Type 0} → (gives : S → Result ℕ Failed → S → Type 0) → (limit : ℕ) → Result (Vec ℕ Global) ReadError → S → S → Type 0
ReadsAll {S = S} gives limit (Ok read) old new = (last : S) × Gave gives (vec_len read) old last × gives last (Ok 0) new
ReadsAll {S = S} gives limit (Err ReadFault) old new =
    (last : S) × (count : ℕ) × (e : Failed) × Gave gives count old last × (count ≤ limit) × gives last (Err e) new
ReadsAll gives limit (Err TooLong) old new = Gave gives (limit + 1) old new
ReadsAll gives limit (Err NoMemory) old new = new ≡ old
