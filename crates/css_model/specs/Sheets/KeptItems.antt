-- The items of a sheet that are kept as they stand.
use Rattle.std.specs.Prelude.{ℕ, zero, suc, Bool, true, false, List, [], ◌∷◌}
use Rattle.std.specs.List.{filter}
use Rattle.css_model.specs.declared.sheet.Item.{Item}
use Rattle.css_model.specs.declared.sheet.Item.TheVariants.{Rule, KeptRule, KeptBlock}

-- a kept rule or a kept block
abbrev pub is_kept : Item → Bool
is_kept (Rule rule) = false
is_kept (KeptRule kept) = true
is_kept (KeptBlock piece) = true

-- how many of the first items are kept
abbrev pub kept_before : ℕ → List Item → ℕ
kept_before zero items = 0
kept_before (suc i) [] = 0
kept_before (suc i) (Rule rule ∷ items) = kept_before i items
kept_before (suc i) (KeptRule kept ∷ items) = suc (kept_before i items)
kept_before (suc i) (KeptBlock piece ∷ items) = suc (kept_before i items)

-- the kept items of a sheet, in order
abbrev pub kept_items : List Item → List Item
kept_items items = filter is_kept items
