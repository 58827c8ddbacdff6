-- What a source that is read gives to a plan.
use Rattle.std.specs.Prelude.{◌≡◌, ℕ, ◌≤◌, List, Ok, length}
use Rattle.css_model.specs.declared.sheet.Item.{Item}
use Rattle.css_model.specs.Sheets.ComesFrom.{pair_count}
use Rattle.css_model.specs.Sheets.Limits.{max_bytes, max_items, max_pairs}
use Rattle.css_model.specs.Sheets.Sheet.{sheet_of}
use Rattle.plan_laws.specs.Plannable.{IsPlannable}

-- a source that is read keeps the limits of a sheet
abbrev pub ReadKeepsTheLimits : Type 0
ReadKeepsTheLimits = (source : List ℕ) (items : List Item) → sheet_of source ≡ Ok items →
    (length source ≤ max_bytes) × (length items ≤ max_items) × (pair_count items ≤ max_pairs)

-- what it is read as can be planned
abbrev pub ReadIsPlannable : Type 0
ReadIsPlannable = (source : List ℕ) (items : List Item) → sheet_of source ≡ Ok items → IsPlannable source items
