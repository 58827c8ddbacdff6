-- What the analysis of a conflict keeps: the clause of the negations of marked literals.
use Rattle.std.specs.Prelude.{◌≡◌, ◌+◌, ◌<◌, ◌≤◌, ◌==◌, ◌⊎◌, ℕ, Bool, false, ◌&&◌, if◌then◌else◌, List, [], ◌∷◌, length, take, slice_get, slice_index_or, IsTrue, Option, Some, None}
use Rattle.std.specs.List.{list_any}
use Rattle.cnf.specs.declared.lit.Lit.{Lit}
use Rattle.cnf.specs.Lits.{variable, negation}
use Rattle.cnf.specs.Propagation.{IsForced}
use Rattle.sat_trail.specs.declared.entry.Entry.{Entry}
use Rattle.sat_trail.specs.Trail.{Assignment, lits}

-- whether the variable of a literal is marked
abbrev pub is_marked : List Bool → Lit → Bool
is_marked seen l = slice_index_or seen (variable l) false

-- the negations of the marked literals
abbrev pub marked : List Bool → List Lit → List Lit
marked seen [] = []
marked seen (l ∷ ls) = if is_marked seen l then negation l ∷ marked seen ls else marked seen ls

-- 1 for a marked entry of a level
abbrev pub one_marked : List Bool → ℕ → Entry → ℕ
one_marked seen level e = if is_marked seen e.lit && (e.level == level) then 1 else 0

-- how many entries of a level are marked
abbrev pub marked_at : List Bool → ℕ → List Entry → ℕ
marked_at seen level [] = 0
marked_at seen level (e ∷ es) = one_marked seen level e + marked_at seen level es

-- whether a literal of the clause has this variable
abbrev pub has_variable : List Lit → ℕ → Bool
has_variable clause v = list_any (λ l. variable l == v) clause

-- each marked variable is that of one of the first k entries
abbrev pub MarkedWithin : List Bool → List Entry → ℕ → Type 0
MarkedWithin seen es k =
    (v : ℕ) → IsTrue (slice_index_or seen v false) → IsTrue (list_any (λ e. variable e.lit == v) (take k es))

-- the conflict, resolved down to the entry at a place: the only marked one of the present level
pub record IsResolved (formula : List (List Lit)) (t : Assignment) (seen : List Bool) (at : ℕ) : Type 0 where
  pub place : at < length t.entries
  pub forced : IsForced formula (marked seen (lits t.entries))
  pub top : (e : Entry) → slice_get t.entries at ≡ Some e
      → IsTrue (is_marked seen e.lit) × (e.level ≡ t.level)
  pub within : MarkedWithin seen t.entries (at + 1)
  pub others : (j : ℕ) (e : Entry) → j < at → slice_get t.entries j ≡ Some e
      → IsTrue (is_marked seen e.lit) → e.level < t.level

-- none of the entries from one place up to another is marked
abbrev pub AreUnmarked : List Entry → List Bool → ℕ → ℕ → Type 0
AreUnmarked es seen from at = (k : ℕ) (e : Entry) → from ≤ k → k < at → slice_get es k ≡ Some e → is_marked seen e.lit ≡ false

-- the entry at a place is the last marked one before another place
pub record IsMarkedLast (es : List Entry) (seen : List Bool) (place at : ℕ) : Type 0 where
  pub before : place < at
  pub on : (e : Entry) → slice_get es place ≡ Some e → IsTrue (is_marked seen e.lit)
  pub behind : AreUnmarked es seen (place + 1) at

-- a level that one of the marked entries before a place is of, or 0
abbrev pub IsBack : List Entry → List Bool → ℕ → ℕ → Type 0
IsBack es seen at back =
    (back ≡ 0)
    ⊎ ((j : ℕ) × (j < at)
    × ((e : Entry) → slice_get es j ≡ Some e → IsTrue (is_marked seen e.lit) × (e.level ≡ back)))

-- where propagation goes on behind so many entries: at a place, if there is one
abbrev pub head_after : Option ℕ → ℕ → ℕ
head_after None count = count
head_after (Some place) count = place
