-- A sheet after one of its steps (own).
use Rattle.std.specs.Prelude.{Bool, List, [], Option, Some, slice_get}
use Rattle.css_model.specs.Cascade.Order.{Pair}
use Rattle.css_model.specs.declared.sheet.Item.{Item}
use Rattle.css_model.specs.declared.sheet.Item.TheVariants.{Rule}
use Rattle.order_laws.specs.Edits.{Edit, edited, is_moved}
use Rattle.step_laws.specs.declared.step.Step.{Step}
use Rattle.step_laws.specs.Steps.{edit_of, first_item, last_item}

-- the edit of a step, of the items that stand at its numbers; one that changes nothing, where these are no rules
abbrev pub edit_by : Step → Option Item → Option Item → Edit
edit_by k (Some (Rule upper)) (Some (Rule lower)) = edit_of k upper lower
edit_by k _ _ = record { changes = []; moved = record { out_of = []; selectors = []; decls = [] } }

abbrev pub edit_at : List Item → Step → Edit
edit_at items k = edit_by k (slice_get items (first_item k)) (slice_get items (last_item k))

-- the sheet after the step
abbrev pub after : List Item → Step → List Item
after items k = edited (edit_at items k) items

-- whether the step moves a pair
abbrev pub moves : List Item → Step → Pair → Bool
moves items k p = is_moved (edit_at items k).moved p
