-- The table by which a trail finds the entry of a literal.
use Rattle.std.specs.Prelude.{◌≡◌, ◌+◌, ◌<◌, ◌≤◌, ◌==◌, ℕ, if◌then◌else◌, Option, None, Some, List, [], ◌∷◌, length, slice_get}
use Rattle.sat_trail.specs.declared.entry.Entry.{Entry}
use Rattle.sat_trail.specs.Trail.{Assignment, IsTrail}

-- the place of a literal's number among entries, the first of which is at a place
abbrev pub place_from : ℕ → List Entry → ℕ → Option ℕ
place_from at [] number = None
place_from at (e ∷ es) number = if number == e.lit.0 then Some at else place_from (at + 1) es number

-- the place of a literal's number among entries
abbrev pub place : List Entry → ℕ → Option ℕ
place es number = place_from 0 es number

-- a table of the places of the numbers
abbrev pub IsPlaced : List Entry → List (Option ℕ) → Type 0
IsPlaced es places = (i : ℕ) → i < length places → slice_get places i ≡ Some (place es i)

-- what the fields of a trail keep: room for an entry of each variable, and the table of their places
pub record IsTrailInside (t : Assignment) (capacity : ℕ) (places : List (Option ℕ)) : Type 0 where
  pub trail : IsTrail t
  pub table : length places ≡ t.vars + t.vars
  pub placed : IsPlaced t.entries places
  pub room : t.vars ≤ capacity
