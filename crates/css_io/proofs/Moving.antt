-- What stays true while bytes are moved piece by piece.
use Rattle.std.specs.Prelude.{◌≡◌, ℕ, suc, ◌+◌, ◌<◌, ◌≤◌, ◌++◌, List, Option, Some, None, Result, Ok, IfSome, length, take}
use Rattle.std.proofs.Common.{arith, ap, sym, ◌∙◌, refl}
use Rattle.std.proofs.lemmas.List.{take_at, length-append}
use Rattle.css_io.specs.Io.{HasAdded}
use Rattle.css_io.specs.Reading.{Gave}
use Rattle.css_io.specs.declared.traits.Failed.{Failed}

-- `taken` was the front of the bytes that were left, and the others are left
abbrev pub TookFront : Option (List ℕ) → Option (List ℕ) → List ℕ → Type 0
TookFront old now taken = IfSome old (λ bytes. (others : List ℕ) × (bytes ≡ taken ++ others) × (now ≡ Some others))

-- all of `bytes` but their end `others` was written
abbrev pub WroteFront : Option (List ℕ) → Option (List ℕ) → List ℕ → List ℕ → Type 0
WroteFront old now bytes others = IfSome old (λ before. (done : List ℕ) × (bytes ≡ done ++ others) × (now ≡ Some (before ++ done)))

-- where something is still to be written, only a part was; so it stays if no more is
pub part_written : (old now new : Option (List ℕ)) (bytes others : List ℕ) → WroteFront old now bytes others
    → 0 < length others → length others ≤ length bytes → new ≡ now → (n : ℕ) × (n < length bytes) × HasAdded (take n bytes) old new
part_written None now new bytes others wrote some fewer same = (0, omega arith, tt)
part_written (Some before) now new bytes others wrote some fewer same =
    let done : List ℕ = wrote.0 in
    let front : take (length done) bytes ≡ done = ap (take (length done)) wrote.1 ∙ take_at done others _ refl in
    let size : length bytes ≡ length done + length others = ap length wrote.1 ∙ length-append done others in
    (length done, omega arith, same ∙ wrote.2 ∙ ap (λ xs. Some (before ++ xs)) (sym front))

-- one more read, of at least one byte
pub gave_more : {S : Type 0} → (gives : S → Result ℕ Failed → S → Type 0) → (before n count : ℕ) (old between new : S) → Gave gives before old between
    → gives between (Ok n) new → 0 < n → count ≡ before + n → Gave gives count old new
gave_more gives before n count old between new gave read some sum = (suc gave.0, (before, n, between, gave.1, read, some, sum))
