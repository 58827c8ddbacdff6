-- The formula of a pair whose table of fits is at hand.
use Rattle.std.specs.Prelude.{ℕ, zero, suc, ◌+◌, ◌*◌, ◌<◌, ◌^◌, Bool, false, List, length, slice_index_or, Option, None, IsTrue}
use Rattle.css_model.specs.Documents.FeatureParts.{FeatureParts}
use Rattle.css_model.specs.Documents.SelectorParts.{SelectorParts}
use Rattle.css_model.specs.Lists.{is_some}
use Rattle.cnf.specs.Cnf.{Cnf}
use Rattle.cnf.specs.Values.{all_hold}
use Rattle.compound_fit.specs.Table.{IsTable}
use Rattle.compound_fit.specs.TableParts.{TableParts}
use Rattle.nth_positions.specs.Gaps.{bounds_of}
use Rattle.slot_plan.specs.Parts.{pair_parts}
use Rattle.grid_laws.specs.Grid.{Lays, left_alone, right_alone, together}
use Rattle.formula_laws.specs.Allowed.{allowed_by}
use Rattle.formula_laws.specs.Formula.{digits_for, formula_of}
use Rattle.sibling_clauses.specs.declared.numbering.Numbering.{Numbering}

-- whether there are features in the k-th place of a table
abbrev pub is_fit_at : List (Option FeatureParts) → ℕ → Bool
is_fit_at fits k = is_some (slice_index_or fits k None)

-- Whether some element passes what a node asks of it alone, by a table of two selectors whose last compounds are m
-- and n: the table has both targets, the other left compounds, the other right ones, and each pair of others.
abbrev pub is_fit : ℕ → ℕ → List (Option FeatureParts) → Lays → ℕ → ℕ → Bool
is_fit m n fits left_alone i j = is_fit_at fits i
is_fit m n fits right_alone i j = is_fit_at fits (m + j)
is_fit m n fits together zero j = is_fit_at fits 0
is_fit m n fits together (suc i) zero = false
is_fit m n fits together (suc i) (suc j) = is_fit_at fits (1 + m + n + (i * n + j))

-- how the first variables of two selectors are numbered
abbrev pub numbering_of : SelectorParts → SelectorParts → Numbering
numbering_of x y = record { left = length x.links; right = length y.links; digits = digits_for (bounds_of (pair_parts x y)).width x y }

-- the formula of two selectors, by their table
abbrev pub pair_formula : SelectorParts → SelectorParts → List (Option FeatureParts) → Cnf
pair_formula x y fits =
    formula_of (bounds_of (pair_parts x y)).width (allowed_by (is_fit (length x.links) (length y.links) fits) x y) x y

-- the values satisfy all clauses of the formula of two selectors
abbrev pub IsModel : SelectorParts → SelectorParts → List Bool → Type 0
IsModel x y values = (table : TableParts) × IsTable table x y × IsTrue (all_hold values (pair_formula x y table.fits).clauses)

-- fewer than 2^24 variables and fewer than 2^32 clauses
pub record IsSmallFormula (f : Cnf) : Type 0 where
  pub vars : f.vars < 2 ^ 24
  pub clauses : length f.clauses < 2 ^ 32
