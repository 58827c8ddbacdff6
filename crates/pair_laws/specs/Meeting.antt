-- Selectors that meet, and the formula of their pair.
use Rattle.std.specs.Prelude.{Bool, List}
use Rattle.cnf.specs.Cnf.{Satisfies}
use Rattle.css_model.specs.Cascade.Order.{Meet}
use Rattle.css_model.specs.Documents.SelectorParts.{SelectorParts}
use Rattle.compound_fit.specs.Table.{IsTable}
use Rattle.compound_fit.specs.TableParts.{TableParts}
use Rattle.selector_laws.specs.Limits.{KeepsLimits}
use Rattle.clause_encode.specs.Fits.{pair_formula}

-- Where two selectors meet, some list of values satisfies the formula of the pair. So they do not meet where none does.
abbrev pub MeetingSatisfies : Type 0
MeetingSatisfies = (table : TableParts) (x y : SelectorParts) → IsTable table x y → KeepsLimits x → KeepsLimits y → Meet x y →
    (values : List Bool) × Satisfies values (pair_formula x y table.fits)
