-- The numbers of one kind along a chain: those before its compounds, or those behind them.
use Rattle.std.specs.Prelude.{Bool, List, false, if◌then◌else◌, true, ℕ, ◌*◌, ◌+◌}
use Rattle.sibling_clauses.specs.Rows.{number_at}
use Rattle.sibling_clauses.specs.declared.numbering.Numbering.{Numbering}
use Rattle.cnf.specs.declared.lit.Lit.{Lit}
use Rattle.formula_laws.specs.Hints.{Owns}
use Rattle.formula_laws.specs.declared.count.Count.{Count}
use Rattle.formula_laws.specs.declared.count.Count.TheVariants.{Before, Behind}

-- that of the k-th compound, where the row-th number is that of the first one
abbrev pub row_at : Numbering → ℕ → ℕ → List Lit
row_at g row k = number_at g (row + 2 * k)

-- where the numbers of a selector begin: of the left one, or of the right one
abbrev pub first_row : Numbering → Bool → ℕ
first_row g right = if right then 2 * (g.left + 1) else 0

-- which number is that of a selector's first compound
abbrev pub row_of : Numbering → Count → Bool → ℕ
row_of g Before right = first_row g right
row_of g Behind right = first_row g right + 1

-- the numbers of one kind of two selectors, as rows
abbrev pub owns_at : Numbering → Count → Owns
owns_at g count = record { count = count; left = row_at g (row_of g count false); right = row_at g (row_of g count true) }
