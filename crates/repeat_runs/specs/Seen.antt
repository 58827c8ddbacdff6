-- What is seen of a list from its end on (own).
use Rattle.std.specs.Prelude.{◌≡◌, ℕ, ◌<◌, ◌≤◌, Bool, if◌then◌else◌, List, [], ◌∷◌, Option, Some, None}

-- what the first element weighs that has this part
abbrev pub nearest : {X Y : Type 0} → (Y → Y → Bool) → (X → Y) → (X → ℕ) → List X → Y → Option ℕ
nearest eq part weight [] p = None
nearest eq part weight (x ∷ xs) p = if eq (part x) p then Some (weight x) else nearest eq part weight xs p

-- the mark of an element, after what weighs so much
abbrev pub IsMark : Option ℕ → (weight mark : ℕ) → Type 0
IsMark None weight mark = mark ≡ 0
IsMark (Some later) weight mark = (mark ≡ weight) × (later ≤ weight)

-- something that weighs more was seen
abbrev pub IsHeavier : Option ℕ → (weight : ℕ) → Type 0
IsHeavier None weight = ⊥
IsHeavier (Some later) weight = weight < later
