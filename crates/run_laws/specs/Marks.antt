-- Which elements of a list go in a run: of those that are in the list again, later, first those that weigh most (own).
use Rattle.std.specs.Prelude.{ℕ, ◌+◌, ◌-◌, ◌==◌, ◌&&◌, ◌≡◌, ◌≤◌, nat_lt, Bool, true, false, if◌then◌else◌, List, [], ◌∷◌}
use Rattle.std.specs.List.{AllByRecursion}

-- what an element weighs if it is again among those after it, and 0 if not
abbrev pub mark : {X : Type 0} → (X → List X → Bool) → (X → ℕ) → X → List X → ℕ
mark again weight x later = if again x later then weight x else 0

-- the mark of each element
abbrev pub marks : {X : Type 0} → (X → List X → Bool) → (X → ℕ) → List X → List ℕ
marks again weight [] = []
marks again weight (x ∷ xs) = mark again weight x xs ∷ marks again weight xs

-- how many of the numbers are this one
abbrev pub count_of : ℕ → List ℕ → ℕ
count_of least [] = 0
count_of least (m ∷ ms) = (if m == least then 1 else 0) + count_of least ms

-- how many of the numbers are greater
abbrev pub count_above : ℕ → List ℕ → ℕ
count_above least [] = 0
count_above least (m ∷ ms) = (if nat_lt least m then 1 else 0) + count_above least ms

-- By its mark an element goes: all with a greater mark than `least`, and the first `count` of those whose mark is `least`.
abbrev pub goes : (least count : ℕ) → List ℕ → List Bool
goes least count [] = []
goes least count (m ∷ ms) =
    if nat_lt least m then true ∷ goes least count ms else
    if (m == least) && nat_lt 0 count then true ∷ goes least (count - 1) ms else
    false ∷ goes least count ms

-- the elements that do not go
abbrev pub kept : {X : Type 0} → List Bool → List X → List X
kept [] xs = xs
kept (gone ∷ rest) [] = []
kept (true ∷ rest) (x ∷ xs) = kept rest xs
kept (false ∷ rest) (x ∷ xs) = x ∷ kept rest xs

-- no later element with the same part weighs more
abbrev pub Descends : {X Y : Type 0} → (X → Y) → (X → ℕ) → List X → Type 0
Descends part weight [] = Unit {0}
Descends part weight (x ∷ xs) = AllByRecursion (λ y. part y ≡ part x → weight y ≤ weight x) xs × Descends part weight xs
