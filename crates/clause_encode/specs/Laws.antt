-- What selectors that keep to the limits, and their tables of fits, are good for.
use Rattle.std.specs.Prelude.{◌≤◌, length}
use Rattle.std.specs.List.{All}
use Rattle.css_model.specs.Documents.SelectorParts.{SelectorParts}
use Rattle.css_model.specs.Positions.Range.{IsInRange}
use Rattle.css_model.specs.Sheets.Limits.{max_stepped}
use Rattle.compound_fit.specs.Table.{IsTable}
use Rattle.compound_fit.specs.TableParts.{TableParts}
use Rattle.formula_laws.specs.Deciding.{IsReady}
use Rattle.selector_laws.specs.Limits.{KeepsLimits}
use Rattle.slot_plan.specs.Parts.{pair_parts, stepped_count}
use Rattle.clause_encode.specs.Fits.{is_fit}

-- the formula by a table is one of which the laws of formulas speak
abbrev pub TablesAreReady : Type 0
TablesAreReady = (table : TableParts) (x y : SelectorParts) → IsTable table x y → KeepsLimits x → KeepsLimits y →
    IsReady (is_fit (length x.links) (length y.links) table.fits) x y

-- the plan of two selectors may be asked for: their positions are in range, and few in each have a step of 2 or more
abbrev pub MayBePlanned : SelectorParts → SelectorParts → Type 0
MayBePlanned x y = All IsInRange (pair_parts x y) × (stepped_count x ≤ max_stepped) × (stepped_count y ≤ max_stepped)

-- that of selectors that keep to the limits may be
abbrev pub LimitsAllowPlans : Type 0
LimitsAllowPlans = (x y : SelectorParts) → KeepsLimits x → KeepsLimits y → MayBePlanned x y
