-- What a contract sees of a sheet.
use Rattle.std.specs.Prelude.{List}
use Rattle.css_model.specs.declared.sheet.Item.{Item}

-- its items, in the order of the source
pub record SheetParts : Type 0 where
  pub items : List Item
