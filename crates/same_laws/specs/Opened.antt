-- Which blocks are opened in two sheets that say the same.
use Rattle.std.specs.Prelude.{◌≡◌, ℕ, List, map, None, Ok, is_some}
use Rattle.css_model.specs.declared.sheet.Item.{Item}
use Rattle.css_model.specs.Sheets.Sheet.{sheet_of}
use Rattle.media_groups.specs.Opened.{opened_of}
use Rattle.same_laws.specs.Same.{opened_blocks}
use Rattle.sheet_same.specs.Kept.{first_differing}

-- In two sheets that are read, of which no place differs, none is opened alone (own): at each place both kept items are opened
-- blocks, or neither is.
abbrev pub NoneIsOpenedAlone : Type 0
NoneIsOpenedAlone = (source : List ℕ) (s : List Item) (other : List ℕ) (t : List Item) → sheet_of source ≡ Ok s → sheet_of other ≡ Ok t →
    first_differing source (opened_of s source) s other (opened_of t other) t ≡ None → map is_some (opened_blocks source s) ≡ map is_some (opened_blocks other t)
