-- Tables that are reindexed for a step, before it is taken (own).
use Rattle.std.specs.Prelude.{Bool, true, false}
use Rattle.pending_laws.specs.declared.way.Way.{Way}
use Rattle.pending_laws.specs.Ways.{IsMove}
use Rattle.queue_laws.specs.Beside.{CoverFollows, StayCovered}
use Rattle.order_laws.specs.Edits.{Edit}
use Rattle.indexed_sheet.specs.IndexedParts.{IndexedParts}
use Rattle.rule_tables.specs.Tables.{TableParts}
use Rattle.step_laws.specs.declared.step.Step.{Step}
use Rattle.step_laws.specs.Steps.{IsStep}

-- Rules that are created by the step are to be put in, and those that it leaves stay covered; or it is a join, and the
-- tables cover all rules after it.
abbrev pub AreReindexed : (put : Bool) → IndexedParts → Step → (tables later : TableParts) → Type 0
AreReindexed true b k tables later = (e : Edit) → IsStep b.items k e → StayCovered b e tables later
AreReindexed false b k tables later = (way : Way) × IsMove way k × ((e : Edit) → IsStep b.items k e → CoverFollows way b k e tables later)
