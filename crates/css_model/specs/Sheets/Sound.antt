-- A style sheet whose pieces are those of a source: each of its selectors, declarations and kept items
-- is one that the source has.
use Rattle.std.specs.Prelude.{ℕ, ◌≡◌, ◌≢◌, false, List, [], Some, Ok}
use Rattle.std.specs.List.{AllByRecursion, Contains, filter}
use Rattle.css_model.specs.declared.sheet.DeclItem.{DeclItem}
use Rattle.css_model.specs.declared.sheet.Item.{Item}
use Rattle.css_model.specs.declared.sheet.Item.TheVariants.{Rule, KeptRule, KeptBlock}
use Rattle.css_model.specs.declared.sheet.Piece.{Piece}
use Rattle.css_model.specs.declared.sheet.SelItem.{SelItem}
use Rattle.css_model.specs.declared.token.Lexeme.{Lexeme}
use Rattle.css_model.specs.Sheets.Declarations.{declaration, is_nested}
use Rattle.css_model.specs.Sheets.Items.{items, is_whole, selector_parts, entries}
use Rattle.css_model.specs.Sheets.KeptRuleParts.{KeptRuleParts}
use Rattle.css_model.specs.Text.Lexemes.{piece_of}
use Rattle.css_model.specs.Sheets.RuleParts.{RuleParts}
use Rattle.css_model.specs.Sheets.Selectors.{selector_item}
use Rattle.css_model.specs.Sheets.Sheet.{item_of, sheet_of}
use Rattle.css_model.specs.Sheets.Spelling.{lexemes_of}

-- the items of a source, by their tokens
abbrev pub raw_items : List ℕ → List (List Lexeme)
raw_items source = filter is_whole (items (lexemes_of source))

-- a part of a prelude of the source reads as this selector, at this place
pub record IsSoundSelector (source : List ℕ) (s : SelItem) : Type 0 where
  pub item : List Lexeme
  pub part : List Lexeme
  pub item_in : Contains (raw_items source) item
  pub part_in : Contains (selector_parts item) part
  pub reads : selector_item source part ≡ Ok s

-- an entry of a block of the source, which is not nested, reads as this declaration, at this place
pub record IsSoundDeclaration (source : List ℕ) (d : DeclItem) : Type 0 where
  pub item : List Lexeme
  pub entry : List Lexeme
  pub item_in : Contains (raw_items source) item
  pub entry_in : Contains (entries item) entry
  pub plain : is_nested source entry ≡ false
  pub reads : declaration source entry ≡ Some d

-- a rule has a selector and a declaration
pub record IsSoundRule (source : List ℕ) (r : RuleParts) : Type 0 where
  pub has_selectors : r.selectors ≢ []
  pub has_declarations : r.decls ≢ []
  pub selectors : AllByRecursion (IsSoundSelector source) r.selectors
  pub decls : AllByRecursion (IsSoundDeclaration source) r.decls

-- an item of the source reads as this kept rule
pub record IsSoundKeptRule (source : List ℕ) (k : KeptRuleParts) : Type 0 where
  pub item : List Lexeme
  pub item_in : Contains (raw_items source) item
  pub reads : item_of source item ≡ Some (KeptRule k)

-- an item of the source stands here
pub record IsSoundBlock (source : List ℕ) (piece : Piece) : Type 0 where
  pub item : List Lexeme
  pub item_in : Contains (raw_items source) item
  pub stands : piece_of item ≡ piece

abbrev pub IsSoundItem : List ℕ → Item → Type 0
IsSoundItem source (Rule r) = IsSoundRule source r
IsSoundItem source (KeptRule k) = IsSoundKeptRule source k
IsSoundItem source (KeptBlock piece) = IsSoundBlock source piece

abbrev pub IsSound : List ℕ → List Item → Type 0
IsSound source items = AllByRecursion (IsSoundItem source) items
