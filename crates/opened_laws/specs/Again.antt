-- What the printed text of a sheet is read back as, whose blocks of media are opened.
use Rattle.std.specs.Prelude.{ℕ, ◌≡◌, ◌≤◌, List, [], ◌∷◌, drop, length, Option, Some, None, Ok}
use Rattle.std.specs.List.{AllZip}
use Rattle.css_model.specs.declared.sheet.Item.{Item}
use Rattle.css_model.specs.declared.sheet.Item.TheVariants.{KeptBlock}
use Rattle.css_model.specs.declared.sheet.Piece.{Piece}
use Rattle.css_model.specs.Sheets.ComesFrom.{ComesFrom}
use Rattle.css_model.specs.Sheets.Limits.{max_bytes}
use Rattle.css_model.specs.Sheets.Printed.{printed}
use Rattle.css_model.specs.Sheets.Sheet.{sheet_of}
use Rattle.css_model.specs.Sheets.SheetParts.{SheetParts}
use Rattle.css_model.specs.Sheets.Spelling.{kept_text}
use Rattle.css_model.specs.Text.Source.{text_at}
use Rattle.media_groups.specs.declared.media.Media.{Media}
use Rattle.media_groups.specs.Opened.{opened_of}
use Rattle.media_groups.specs.Printed.{blocks_at, printed_opened, printed_with}
use Rattle.opened_laws.specs.Media.Scenes.{block_at}
use Rattle.sheet_laws.specs.Twins.{AreTwinItems, AreTwins}

-- An opened block of a source that was printed with this body, and the block that it is read back as (own): the same head, and a
-- body that is the printed text of that body, and is read as the twin of it.
pub record IsBlockAgain (source : List ℕ) (m : Media) (body : SheetParts) (written : List ℕ) (m' : Media) : Type 0 where
  pub head : kept_text written m'.head ≡ kept_text source m.head
  pub text : text_at written m'.body ≡ printed (text_at source m.body) body.items
  pub twins : AreTwins (text_at source m.body) (text_at written m'.body) body.items m'.sheet.items

-- Two kept blocks, each with the opened block that it is, if it is one (own): both are opened, the first one with the first of these
-- bodies, or none is, and they have the same kept text.
abbrev pub IsPieceAgain : List ℕ → List SheetParts → Piece → Option Media → List ℕ → Piece → Option Media → Type 0
IsPieceAgain source bodies piece None written piece' None = kept_text source piece ≡ kept_text written piece'
IsPieceAgain source bodies piece None written piece' (Some m') = ⊥
IsPieceAgain source bodies piece (Some m) written piece' None = ⊥
IsPieceAgain source [] piece (Some m) written piece' (Some m') = ⊥
IsPieceAgain source (body ∷ bodies) piece (Some m) written piece' (Some m') = IsBlockAgain source m body written m'

-- Items among which blocks are opened, in their order, that were printed with these bodies, and the items that they are read back
-- as, with the blocks that are opened among these (own): an opened block stands for an opened one, any other item for its twin.
abbrev pub AreOpenedAgain : List ℕ → List Media → List SheetParts → List Item → List ℕ → List Media → List Item → Type 0
AreOpenedAgain source media bodies [] written media' [] = (media ≡ []) × (media' ≡ [])
AreOpenedAgain source media bodies [] written media' (item' ∷ items') = ⊥
AreOpenedAgain source media bodies (item ∷ items) written media' [] = ⊥
AreOpenedAgain source media bodies (KeptBlock piece ∷ items) written media' (KeptBlock piece' ∷ items') =
    IsPieceAgain source bodies piece (block_at media piece) written piece' (block_at media' piece')
    × AreOpenedAgain source
    (drop (blocks_at media (KeptBlock piece)) media)
    (drop (blocks_at media (KeptBlock piece)) bodies)
    items written
    (drop (blocks_at media' (KeptBlock piece')) media')
    items'
AreOpenedAgain source media bodies (item ∷ items) written media' (item' ∷ items') =
    AreTwinItems source written item item' × AreOpenedAgain source media bodies items written media' items'

-- What the printed text of items is read back as, among which these blocks are opened, with these bodies (own): items among which
-- the same ones are opened, and whose printed text is the same.
pub record IsReadBackOpened (source : List ℕ) (media : List Media) (bodies : List SheetParts) (items : List Item) (written : List ℕ) : Type 0 where
  pub again : List Item
  pub reads : sheet_of written ≡ Ok again
  pub prints : printed_opened again written ≡ written
  pub opened : AreOpenedAgain source media bodies items written (opened_of again written) again

-- a sheet that is made of the parts of a block's body
abbrev pub IsBodyFrom : List ℕ → Media → SheetParts → Type 0
IsBodyFrom source m body = ComesFrom (text_at source m.body) m.sheet.items body.items

-- The text of items that come from those that a source was read as, whose blocks are opened, and whose bodies are made of the parts
-- of the blocks' own, is read back as these items, with the same blocks opened, where it is no longer than a sheet may be; printed
-- again it is the same.
abbrev pub OpenedReadsBack : Type 0
OpenedReadsBack = (source : List ℕ) (old new : List Item) (bodies : List SheetParts) → sheet_of source ≡ Ok old → ComesFrom source old new →
    AllZip (IsBodyFrom source) (opened_of old source) bodies → length (printed_with source (opened_of old source) bodies new) ≤ max_bytes →
    IsReadBackOpened source (opened_of new source) bodies new (printed_with source (opened_of old source) bodies new)
