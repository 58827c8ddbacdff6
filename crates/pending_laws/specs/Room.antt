-- How many items a step adds.
use Rattle.std.specs.Prelude.{◌+◌, ◌<◌, ◌≤◌, List, length}
use Rattle.css_model.specs.declared.sheet.Item.{Item}
use Rattle.css_model.specs.Sheets.Limits.{max_items}
use Rattle.order_laws.specs.Edits.{Edit, edited}
use Rattle.step_laws.specs.declared.step.Step.{Step}
use Rattle.step_laws.specs.Steps.{IsStep}
use Rattle.plan_laws.specs.Barrier.Hindering.{HasRoom}

-- a step adds one item at most
abbrev pub StepsAddOneItem : Type 0
StepsAddOneItem = (items : List Item) (k : Step) (e : Edit) → IsStep items k e → length (edited e items) ≤ length items + 1

-- Where a sheet may have two more items, no step makes it as long as one may be.
abbrev pub SheetsHaveRoom : Type 0
SheetsHaveRoom = (items : List Item) → length items + 1 < max_items → HasRoom items
