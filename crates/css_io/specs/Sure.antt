-- What contracts see of the source and the sink that never fail, beside their bytes.
use Rattle.std.specs.Prelude.{◌≡◌, ◌≤◌, ℕ, List, Result, Ok, Err, drop, length}

-- how many bytes the sink has room for
abbrev pub sure_room : ℕ
sure_room = 4194304

-- what a read of the source answers and leaves: it never fails
abbrev pub SureGives : {E : Type 0} → List ℕ → Result ℕ E → List ℕ → Type 0
SureGives old (Ok n) new = (n ≤ length old) × (new ≡ drop n old)
SureGives old (Err e) new = ⊥
