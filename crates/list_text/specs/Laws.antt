-- What holds of the lines of a sheet's items.
use Rattle.std.specs.Prelude.{◌≡◌, ℕ, suc, false, List, Some, Ok, is_some, slice_get}
use Rattle.std.specs.List.{Contains}
use Rattle.css_model.specs.declared.sheet.Item.{Item}
use Rattle.css_model.specs.Sheets.Sheet.{sheet_of}
use Rattle.media_groups.specs.declared.media.Media.{Media}
use Rattle.media_groups.specs.Levels.{body_level, outer_level}
use Rattle.media_groups.specs.Opened.{opened_of}
use Rattle.list_text.specs.ListTexts.{block_of, item_line, list_lines}

-- The item that comes after n others in the sheet has the number n + 1 in its line. So the report, `why` and `dead` number the
-- items too.
abbrev pub EachItemIsListed : Type 0
EachItemIsListed =
    (source : List ℕ) (items : List Item) (item : Item) (n : ℕ) → sheet_of source ≡ Ok items → slice_get items n ≡ Some item
    → Contains (list_lines source items) (item_line source (outer_level source items) (is_some (block_of (suc n) (opened_of items source))) (suc n, item))

-- The item that comes after k others in the body of an opened block has the number of the block, a dot and k + 1.
abbrev pub EachInnerItemIsListed : Type 0
EachInnerItemIsListed =
    (source : List ℕ) (items : List Item) (block inner : Item) (m : Media) (n k : ℕ) → sheet_of source ≡ Ok items → slice_get items n ≡ Some block
    → block_of (suc n) (opened_of items source) ≡ Some m → slice_get m.sheet.items k ≡ Some inner
    → Contains (list_lines source items) (item_line source (body_level source m) false (suc k, inner))
