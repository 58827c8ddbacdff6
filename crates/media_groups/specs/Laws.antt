-- What holds of opened blocks.
use Rattle.std.specs.Prelude.{ℕ, ◌+◌, ◌≡◌, ◌≤◌, nat_eq, false, List, map, length, Ok}
use Rattle.std.specs.List.{AllByRecursion, AllZip, flat_map, starts_with}
use Rattle.css_model.specs.declared.sheet.Item.{Item}
use Rattle.css_model.specs.Sheets.ComesFrom.{Follows}
use Rattle.css_model.specs.Sheets.Printed.{printed, printed_item}
use Rattle.css_model.specs.Sheets.Sheet.{sheet_of}
use Rattle.css_model.specs.Sheets.SheetParts.{SheetParts}
use Rattle.css_model.specs.Text.Source.{IsWithin, text_at}
use Rattle.css_model.specs.Text.Tokens.{byte_order_mark}
use Rattle.media_groups.specs.declared.media.Media.{Media}
use Rattle.media_groups.specs.Opened.{opened_of}
use Rattle.media_groups.specs.Printed.{IsSoundBody, printed_with, texts_with}

-- The body of an opened block stands in the source, and is read as the block's sheet; it does not begin with a byte order mark.
pub record IsBlockOf (source : List ℕ) (m : Media) : Type 0 where
  pub within : IsWithin source m.body
  pub reads : sheet_of (text_at source m.body) ≡ Ok m.sheet.items
  pub unmarked : starts_with nat_eq (text_at source m.body) byte_order_mark ≡ false

-- so are all opened blocks of items
abbrev pub OpenedBlocksAreSheets : Type 0
OpenedBlocksAreSheets = (source : List ℕ) (items : List Item) → AllByRecursion (IsBlockOf source) (opened_of items source)

-- So their sheets are sound for their bodies, and may be printed in them as they are.
abbrev pub OpenedBodiesAreSound : Type 0
OpenedBodiesAreSound = (source : List ℕ) (items : List Item) → AllZip (IsSoundBody source) (opened_of items source) (map (λ m. m.sheet) (opened_of items source))

-- an opened block apart from which item it is
abbrev pub unnumbered : Media → Media
unnumbered m = record { item = 0; head = m.head; body = m.body; sheet = m.sheet }

-- Where the kept items stay, with rules only where a rule stood, the same blocks are opened.
abbrev pub BlocksStay : Type 0
BlocksStay = (source : List ℕ) (old new : List Item) → Follows new old → map unnumbered (opened_of new source) ≡ map unnumbered (opened_of old source)

-- So the opened blocks of the first sheet serve to print the second one.
abbrev pub PrintedByOldBlocks : Type 0
PrintedByOldBlocks = (source : List ℕ) (old new : List Item) (bodies : List SheetParts) → Follows new old →
    printed_with source (opened_of old source) bodies new ≡ printed_with source (opened_of new source) bodies new

-- a body that is no longer than the block's own
abbrev pub IsNoLongerBody : List ℕ → Media → SheetParts → Type 0
IsNoLongerBody source m body = length (printed (text_at source m.body) body.items) ≤ length (printed (text_at source m.body) m.sheet.items)

-- Where the items become shorter by so many bytes, and each opened body no longer, their text with these bodies becomes shorter by as
-- many (without a space before a byte order mark).
abbrev pub MergedIsNoLonger : Type 0
MergedIsNoLonger = (source : List ℕ) (old new : List Item) (bodies : List SheetParts) (n : ℕ) → Follows new old →
    length (flat_map (printed_item source) new) + n ≤ length (flat_map (printed_item source) old) → AllZip (IsNoLongerBody source) (opened_of old source) bodies →
    length (texts_with source (opened_of old source) bodies new) + n ≤ length (texts_with source (opened_of old source) (map (λ m. m.sheet) (opened_of old source)) old)
