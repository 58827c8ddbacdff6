-- How many pairs of the selectors of a sheet meet (own).
use Rattle.std.specs.Prelude.{◌≡◌, ℕ, List, Ok}
use Rattle.std.specs.List.{count_by}
use Rattle.cnf.specs.Budgets.{no_limit}
use Rattle.css_model.specs.declared.sheet.Item.{Item}
use Rattle.css_model.specs.Sheets.Sheet.{sheet_of}
use Rattle.bench_counts.specs.Asking.{AreKinds, is_kind, ordered_pairs, selectors_of}
use Rattle.bench_counts.specs.declared.answering.Kind.{Kind}
use Rattle.bench_counts.specs.declared.answering.Kind.TheVariants.{Meet, Apart, Outside}
use Rattle.bench_counts.specs.declared.pairs.Counts.{Counts}

-- how many are of each kind
abbrev pub counts_of : List Kind → Counts
counts_of kinds = record { meet = count_by (is_kind Meet) kinds; apart = count_by (is_kind Apart) kinds; outside = count_by (is_kind Outside) kinds }

-- how many ordered pairs of the selectors of the sheet that a source is read as have an answer of each kind; each answer
-- is true, without a limit
pub record IsCount (source : List ℕ) (counts : Counts) : Type 0 where
  pub items : List Item
  pub read : sheet_of source ≡ Ok items
  pub kinds : List Kind
  pub asked : AreKinds no_limit (ordered_pairs (selectors_of items)) kinds
  pub counts_are : counts ≡ counts_of kinds
