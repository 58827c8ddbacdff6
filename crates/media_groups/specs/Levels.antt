-- The levels of a sheet: the sheet itself, and the body of each opened block as a sheet of its own (own).
use Rattle.std.specs.Prelude.{ℕ, List, ◌∷◌, map, Option, Some, None}
use Rattle.css_model.specs.declared.sheet.Item.{Item}
use Rattle.css_model.specs.Text.Source.{text_at}
use Rattle.media_groups.specs.declared.media.Media.{Media}
use Rattle.media_groups.specs.Opened.{opened_of}

-- A sheet with the bytes that its pieces are places in, where these begin in the bytes of the outer sheet, and the number of
-- the item whose body it is, from 0.
pub record Level : Type 0 where
  pub block : Option ℕ
  pub start : ℕ
  pub source : List ℕ
  pub items : List Item

-- the sheet itself
abbrev pub outer_level : (source : List ℕ) (items : List Item) → Level
outer_level source items = record { block = None; start = 0; source = source; items = items }

-- the body of an opened block
abbrev pub body_level : (source : List ℕ) → Media → Level
body_level source m = record { block = Some m.item; start = m.body.start; source = text_at source m.body; items = m.sheet.items }

-- the sheet itself, and then the bodies of its opened blocks in their order
abbrev pub levels_of : (source : List ℕ) (items : List Item) → List Level
levels_of source items = outer_level source items ∷ map (body_level source) (opened_of items source)
