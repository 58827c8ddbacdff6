-- Items in which whole blocks stand in the places of kept ones, and what their printed text is read back as.
use Rattle.std.specs.Prelude.{ℕ, ◌≡◌, ◌≤◌, ◌⊎◌, true, false, List, [], ◌∷◌, length, Ok}
use Rattle.std.specs.List.{AllZip, list_any}
use Rattle.css_model.specs.declared.sheet.Item.{Item}
use Rattle.css_model.specs.declared.sheet.Item.TheVariants.{KeptBlock}
use Rattle.css_model.specs.declared.sheet.Piece.{Piece}
use Rattle.css_model.specs.Sheets.ComesFrom.{ComesFrom}
use Rattle.css_model.specs.Sheets.Items.{opens_block}
use Rattle.css_model.specs.Sheets.Limits.{max_bytes}
use Rattle.css_model.specs.Sheets.Printed.{printed}
use Rattle.css_model.specs.Sheets.Sheet.{is_import, sheet_of}
use Rattle.css_model.specs.Sheets.Spelling.{kept_text, tokens_in}
use Rattle.sheet_laws.specs.Sourced.{AreTwinsOfSourced, SourcedItem, of_source, printed_sourced}

-- a text from its first byte to its last one
abbrev pub whole_piece : List ℕ → Piece
whole_piece text = record { start = 0; «end» = length text }

-- A text that is one kept block by itself (own): an at-rule with a block, no `@import`, which is its own kept text.
pub record IsWholeBlock (text : List ℕ) : Type 0 where
  pub reads : sheet_of text ≡ Ok (KeptBlock (whole_piece text) ∷ [])
  pub kept : kept_text text (whole_piece text) ≡ text
  pub has_block : list_any opens_block (tokens_in text (whole_piece text)) ≡ true
  pub no_import : is_import text (tokens_in text (whole_piece text)) ≡ false

-- a whole block in the place of a kept block of a source that is no `@import`
pub record IsReplacement (source : List ℕ) (item : Item) (x : SourcedItem) : Type 0 where
  pub piece : Piece
  pub is_block : item ≡ KeptBlock piece
  pub no_import : is_import source (tokens_in source piece) ≡ false
  pub is_whole : x.item ≡ KeptBlock (whole_piece x.source)
  pub block : IsWholeBlock x.source

-- An item as it stands in a source, or in its place another whole block (own).
abbrev pub IsReplacedBy : List ℕ → Item → SourcedItem → Type 0
IsReplacedBy source item x = (x ≡ of_source source item) ⊎ IsReplacement source item x

-- The printed text of items that come from those that a source was read as, with whole blocks in the places of kept blocks, is read
-- back as their twins, one by one, where it is no longer than a sheet may be; printed again it is the same.
abbrev pub ReplacedReadsBack : Type 0
ReplacedReadsBack = (source : List ℕ) (old new : List Item) (xs : List SourcedItem) → sheet_of source ≡ Ok old → ComesFrom source old new
    → AllZip (IsReplacedBy source) new xs → length (printed_sourced xs) ≤ max_bytes
    → (again : List Item) × (sheet_of (printed_sourced xs) ≡ Ok again) × AreTwinsOfSourced (printed_sourced xs) xs again
    × (printed (printed_sourced xs) again ≡ printed_sourced xs)
