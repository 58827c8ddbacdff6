-- What values of the variables make of literals and clauses.
use Rattle.std.specs.Prelude.{Bool, false, not, if◌then◌else◌, List, slice_index_or}
use Rattle.std.specs.List.{list_all, list_any}
use Rattle.cnf.specs.declared.lit.Lit.{Lit}
use Rattle.cnf.specs.Lits.{variable, is_negated}

-- the value of a literal, where the k-th of the list is that of the variable k
unfoldable pub value : List Bool → Lit → Bool
value vs l = if is_negated l then not (slice_index_or vs (variable l) false) else slice_index_or vs (variable l) false

-- whether a clause holds: one of its literals is true
abbrev pub holds : List Bool → List Lit → Bool
holds vs clause = list_any (value vs) clause

-- whether each of these clauses holds
abbrev pub all_hold : List Bool → List (List Lit) → Bool
all_hold vs clauses = list_all (holds vs) clauses
