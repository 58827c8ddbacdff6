-- What the kept items of a sheet say, where its blocks of media are opened, and its winners.
use Rattle.std.specs.Prelude.{ℕ, ◌≡◌, List, [], ◌∷◌, drop, Option, Some, None}
use Rattle.css_model.specs.declared.sheet.Item.{Item}
use Rattle.css_model.specs.declared.sheet.Item.TheVariants.{Rule, KeptRule, KeptBlock}
use Rattle.css_model.specs.declared.sheet.Piece.{Piece}
use Rattle.css_model.specs.Cascade.Order.{kept_content}
use Rattle.css_model.specs.Cascade.Winner.{Understood, Winner, winner}
use Rattle.css_model.specs.Documents.Document.{Document, Target, IsLegal}
use Rattle.css_model.specs.Sheets.Spelling.{Content, content, kept_text}
use Rattle.css_model.specs.Text.Source.{text_at}
use Rattle.media_groups.specs.declared.media.Media.{Media}
use Rattle.media_groups.specs.Opened.{opened_of}
use Rattle.media_groups.specs.Printed.{blocks_at}
use Rattle.opened_laws.specs.Media.Scenes.{IsSceneOf, KeptScene, block_at, kept_blocks, meanings_of}
use Rattle.order_laws.specs.Keeping.{AreRelated}

-- What a kept item says (own): an opened block the kept text of its head and what the kept items of its body say; any other one
-- its own kept text.
pub data OpenedContent : Type 0 where
  Plain : Content → OpenedContent
  Opened : List ℕ → List Content → OpenedContent

-- what a kept block says, where it is this opened one
abbrev pub block_content : List ℕ → Piece → Option Media → OpenedContent
block_content source piece None = Plain (content source (KeptBlock piece))
block_content source piece (Some m) = Opened (kept_text source m.head) (kept_content (text_at source m.body) m.sheet.items)

-- What the kept items among items say, of which these blocks are opened, in their order (own).
abbrev pub opened_content : List ℕ → List Media → List Item → List OpenedContent
opened_content source media [] = []
opened_content source media (Rule r ∷ items) = opened_content source media items
opened_content source media (KeptRule k ∷ items) = Plain (content source (KeptRule k)) ∷ opened_content source media items
opened_content source media (KeptBlock piece ∷ items) =
    block_content source piece (block_at media piece) ∷ opened_content source (drop (blocks_at media (KeptBlock piece)) media) items

-- The winner of a sheet for a target in a scene, where its blocks of media are opened (CSS Cascading 3, section 6, and CSS Conditional
-- Rules 3, section 2: rules inside a block apply where its condition holds, in the place of the block).
abbrev pub winner_in : Document → Target → List ℕ → List Item → List KeptScene → List Understood → Option Winner
winner_in doc target source items scene us = winner doc target (meanings_of doc target (kept_blocks (opened_of items source) items) scene) items us

-- Both sheets, each with its source, have the same winners where their blocks of media are opened: in every legal document, for
-- every target, in every scene of the first, and of all understood declarations whose names are related.
abbrev pub HaveSameWinnersOpened : List ℕ → List Item → List ℕ → List Item → Type 0
HaveSameWinnersOpened source items source' items' = (doc : Document) (target : Target) (scene : List KeptScene) (us : List Understood) →
    IsLegal doc → IsSceneOf (opened_of items source) items scene → AreRelated us →
    winner_in doc target source items scene us ≡ winner_in doc target source' items' scene us
