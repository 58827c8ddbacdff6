-- A sheet with the marks of its items.
use Rattle.std.specs.Prelude.{ℕ, List}
use Rattle.css_model.specs.declared.sheet.Item.{Item}
use Rattle.indexed_sheet.specs.declared.marks.Mark.{Mark}

-- the items, the mark of each, and the item id of the next item that is put in
pub record IndexedParts : Type 0 where
  pub items : List Item
  pub marks : List Mark
  pub next : ℕ
