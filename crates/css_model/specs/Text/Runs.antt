-- The longest row of units at the front of a text. A unit is given by how many bytes it takes at the
-- front of a text, 0 where none begins there.
use Rattle.std.specs.Prelude.{ℕ, zero, suc, ◌+◌, ◌<◌, ◌≤◌, ◌≡◌, List, [], ◌∷◌, drop}

-- nothing where no unit begins, or the bytes of a unit and what follows them
abbrev pub unit_then : ℕ → (ℕ → ℕ) → ℕ
unit_then zero more = 0
unit_then (suc n) more = suc (more n)

-- `run`, where the next `left` bytes belong to the unit at hand. Where the text ends inside a unit, the
-- bytes that lack count too, so that the length is above that of the text.
abbrev pub run_from : (List ℕ → ℕ) → ℕ → List ℕ → ℕ
run_from unit left [] = left
run_from unit (suc left) (c ∷ cs) = suc (run_from unit left cs)
run_from unit zero (c ∷ cs) = unit_then (unit (c ∷ cs)) (λ n. run_from unit n cs)

-- how many bytes the longest row of units takes
abbrev pub run : (List ℕ → ℕ) → List ℕ → ℕ
run unit text = run_from unit 0 text

-- k units, one after another, take n bytes at the front of a text
abbrev pub IsRow : (List ℕ → ℕ) → ℕ → List ℕ → ℕ → Type 0
IsRow unit zero text n = n ≡ 0
IsRow unit (suc k) text n = (0 < unit text) × ((m : ℕ) × (n ≡ unit text + m) × IsRow unit k (drop (unit text) text) m)

-- a run is a row of units, and no row is longer
abbrev pub RunsAreLongest : Type 0
RunsAreLongest = (unit : List ℕ → ℕ) (text : List ℕ) → unit [] ≡ 0
    → ((k : ℕ) × IsRow unit k text (run unit text)) × ((k n : ℕ) → IsRow unit k text n → n ≤ run unit text)
