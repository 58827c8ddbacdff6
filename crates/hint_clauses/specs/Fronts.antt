-- The first compounds of runs, as the code holds them.
use Rattle.std.specs.Prelude.{Bool, IsTrue, length, ℕ, ◌<◌, ◌≤◌}
use Rattle.cnf.specs.Lits.{are_below}
use Rattle.css_model.specs.Documents.SelectorParts.{SelectorParts}
use Rattle.formula_laws.specs.Distances.{First, first_of}
use Rattle.formula_laws.specs.declared.count.Count.{Count}
use Rattle.hint_clauses.specs.Chains.{row_at, row_of}
use Rattle.hint_clauses.specs.Counted.{opposite, side_of}
use Rattle.hint_clauses.specs.declared.counted.Counted.{Counted}
use Rattle.hint_clauses.specs.declared.fronts.Front.{Front}
use Rattle.sibling_clauses.specs.declared.numbering.Numbering.{Numbering}

-- what the code knows of a first compound
abbrev pub first_by : Front → First
first_by front = record { own = front.own; other = front.other; step = front.step; rest = front.rest }

-- the first compound of the run that begins with the p-th one of a selector
abbrev pub first_at : Numbering → Count → SelectorParts → Bool → ℕ → First
first_at g count x right = first_of count x.links x.chain (row_at g (row_of g count right)) (row_at g (row_of g (opposite count) right))

-- that of the right selector, or of the left one
abbrev pub first_in : Counted → Bool → ℕ → First
first_in pair right = first_at pair.numbering pair.count (side_of pair right) right

-- its numbers are in range, and have few digits; its step is some
pub record IsFront (vars : ℕ) (front : Front) : Type 0 where
  pub own : IsTrue (are_below vars front.own)
  pub other : IsTrue (are_below vars front.other)
  pub digits : length front.own ≤ 25
  pub step : 0 < front.step
