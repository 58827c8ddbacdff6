-- The rules of a sheet, each with its number for an order key (own).
use Rattle.std.specs.Prelude.{ℕ, ◌≤◌, List, length}
use Rattle.std.specs.List.{range_with_len}
use Rattle.css_model.specs.declared.sheet.Item.{Item}
use Rattle.css_model.specs.Sheets.Limits.{max_bytes, max_items}
use Rattle.css_model.specs.Sheets.Sound.{IsSound}
use Rattle.rule_tables.specs.Tables.{Cover, OrderKeyed, TableParts, order_keyed}
use Rattle.step_laws.specs.Sizes.{size}

-- the numbers of items, from 0
abbrev pub numbers : List Item → List ℕ
numbers items = range_with_len 0 (length items)

-- the rules among items, each with the number of its item
abbrev pub numbered : List Item → List OrderKeyed
numbered items = order_keyed items (numbers items)

-- The tables cover the rules of a sheet by their numbers. The sheet is sound for a source, has no more items than one may
-- have, and prints to no more bytes.
pub record IsReady (tables : TableParts) (source : List ℕ) (items : List Item) : Type 0 where
  pub cover : Cover tables (numbered items)
  pub sound : IsSound source items
  pub few_items : length items ≤ max_items
  pub short : size source items ≤ max_bytes
