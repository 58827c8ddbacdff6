-- What is counted of a sheet and of the bodies of its opened blocks together.
use Rattle.std.specs.Prelude.{ℕ, ◌*◌, Bool, true, false}
use Rattle.css_model.specs.declared.sheet.Item.{Item}
use Rattle.css_model.specs.declared.sheet.Item.TheVariants.{Rule, KeptRule, KeptBlock}
use Rattle.css_model.specs.Sheets.Limits.{max_items}

-- how many items a sheet, or all opened bodies of one, have at most
abbrev pub most_items : ℕ
most_items = max_items * max_items

-- a kept item that may be an opened block
abbrev pub is_block : Item → Bool
is_block (Rule r) = false
is_block (KeptRule k) = false
is_block (KeptBlock piece) = true
