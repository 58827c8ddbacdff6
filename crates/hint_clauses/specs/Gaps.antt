-- Hints on distances, by what the code knows of runs.
use Rattle.std.specs.Prelude.{Bool, IfSome, IsTrue, false, true, ℕ}
use Rattle.cnf.specs.Cnf.{Cnf}
use Rattle.cnf.specs.Lits.{is_below}
use Rattle.formula_laws.specs.Distances.{with_distances_beside, with_own_distance, with_related, with_shared_distance}
use Rattle.hint_clauses.specs.Chains.{owns_at}
use Rattle.hint_clauses.specs.Counted.{opposite, side_of}
use Rattle.hint_clauses.specs.Fronts.{IsFront, first_by, first_in}
use Rattle.hint_clauses.specs.declared.counted.Counted.{Counted}
use Rattle.hint_clauses.specs.declared.gaps.Gap.{Gap}

-- two runs, and when they are in one row
pub record IsGap (vars : ℕ) (gap : Gap) : Type 0 where
  pub given : IfSome gap.given (λ l. IsTrue (is_below vars l))
  pub big : IsFront vars gap.big
  pub small : IsFront vars gap.small

-- the hints of two runs
abbrev pub related_step : Gap → Cnf → Cnf
related_step gap = with_related gap.given gap.ordered (first_by gap.big) (first_by gap.small)

-- of the runs of one selector that begin with the q-th and the p-th compound
abbrev pub own_step : Counted → Bool → ℕ → ℕ → Cnf → Cnf
own_step pair right = with_own_distance pair.count (side_of pair right).links (first_in pair right)

-- of the left run that begins with the p-th compound and the right one that begins with the q-th
abbrev pub shared_step : Counted → ℕ → ℕ → Cnf → Cnf
shared_step pair = with_shared_distance pair.count pair.left.now pair.right.now (first_in pair false) (first_in pair true)

-- of all runs
abbrev pub distances_step : Counted → Cnf → Cnf
distances_step pair = with_distances_beside pair.left.now pair.right.now (owns_at pair.numbering pair.count) (owns_at pair.numbering (opposite pair.count))
