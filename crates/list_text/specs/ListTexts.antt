-- What is told of the items of a sheet: of each its number, its place, its kind and its head (own).
use Rattle.std.specs.Prelude.{◌≡◌, ℕ, suc, ◌+◌, ◌==◌, Bool, false, if◌then◌else◌, List, [], ◌∷◌, ◌++◌, map, Option, Some, None, Ok, is_some, codes, decimal}
use Rattle.std.specs.List.{enumerate_from, find, flat_map}
use Rattle.css_model.specs.declared.sheet.Item.{Item}
use Rattle.css_model.specs.declared.sheet.Item.TheVariants.{Rule, KeptRule, KeptBlock}
use Rattle.css_model.specs.Sheets.Sheet.{sheet_of, start_of}
use Rattle.doc_text.specs.DocText.{ended}
use Rattle.line_places.specs.Lines.{place_of, place_text}
use Rattle.line_places.specs.Shown.{shown}
use Rattle.media_groups.specs.declared.media.Media.{Media}
use Rattle.media_groups.specs.Heads.{head_text}
use Rattle.media_groups.specs.Levels.{Level, body_level, outer_level}
use Rattle.media_groups.specs.Opened.{opened_of}

-- ---- One line

-- the kind of an item: a style rule, an opened block, a kept rule with the number of its reason, or another kept item
abbrev pub kind_text : (opened : Bool) → Item → List ℕ
kind_text opened (Rule r) = codes "rule"
kind_text opened (KeptRule k) = codes "kept:" ++ decimal k.reason
kind_text opened (KeptBlock piece) = if opened then codes "media" else codes "block"

-- the number of an item of a level, from 1; in a body after that of its block and a dot
abbrev pub number_text : (block : Option ℕ) (number : ℕ) → List ℕ
number_text None number = decimal number
number_text (Some block) number = decimal (suc block) ++ codes "." ++ decimal number

-- `NUMBER PLACE KIND HEAD`: an item of a level of the sheet with these bytes
abbrev pub item_line : (text : List ℕ) → Level → (opened : Bool) → ℕ × Item → List ℕ
item_line text level opened (number, item) =
    number_text level.block number ++ codes " " ++ place_text (place_of text (level.start + start_of item)) ++ codes " " ++ kind_text opened item ++ codes " " ++ shown (head_text level.source item)

-- ---- All lines

-- the opened block that is the item of this number, from 1
abbrev pub block_of : (number : ℕ) → List Media → Option Media
block_of number media = find (λ m. suc m.item == number) media

-- the lines of the items of its body
abbrev pub body_lines : (text : List ℕ) → Option Media → List (List ℕ)
body_lines text None = []
body_lines text (Some m) = map (item_line text (body_level text m) false) (enumerate_from 1 m.sheet.items)

-- the line of an item of the sheet, and those of its body if it is an opened block
abbrev pub item_lines : (text : List ℕ) → List Item → ℕ × Item → List (List ℕ)
item_lines text items (number, item) =
    item_line text (outer_level text items) (is_some (block_of number (opened_of items text))) (number, item) ∷ body_lines text (block_of number (opened_of items text))

-- the lines of all items of a sheet, in their order
abbrev pub list_lines : (text : List ℕ) → List Item → List (List ℕ)
list_lines text items = flat_map (item_lines text items) (enumerate_from 1 items)

-- The text has the lines of the items that the source is read as.
pub record IsListText (source text : List ℕ) : Type 0 where
  pub items : List Item
  pub read : sheet_of source ≡ Ok items
  pub lines : text ≡ ended (list_lines source items)
