-- The printed text of a sheet whose blocks of media are opened.
use Rattle.std.specs.Prelude.{ℕ, ◌==◌, Bool, false, if◌then◌else◌, List, [], ◌∷◌, ◌++◌, map, drop}
use Rattle.css_model.specs.declared.sheet.Item.{Item}
use Rattle.css_model.specs.declared.sheet.Item.TheVariants.{Rule, KeptRule, KeptBlock}
use Rattle.css_model.specs.declared.token.Lexeme.{Lexeme}
use Rattle.css_model.specs.Sheets.Printed.{behind_mark, printed, printed_item}
use Rattle.css_model.specs.Sheets.SheetParts.{SheetParts}
use Rattle.css_model.specs.Sheets.Sound.{IsSound}
use Rattle.css_model.specs.Sheets.Spelling.{kept_text}
use Rattle.css_model.specs.Text.Characters.{close_curly, open_curly}
use Rattle.css_model.specs.Text.Kept.{Solid, between, behind_last}
use Rattle.css_model.specs.Text.Source.{IsWithin, text_at}
use Rattle.media_groups.specs.declared.media.Media.{Media}
use Rattle.media_groups.specs.Opened.{opened_of}

-- An opened block with this sheet as its body (own): the kept text of its head, `{`, the printed text of the body, by the bytes of
-- the body, and `}`.
abbrev pub block_text : List ℕ → Media → SheetParts → List ℕ
block_text source m body = kept_text source m.head ++ open_curly ∷ printed (text_at source m.body) body.items ++ close_curly ∷ []

-- a block that begins at this place of the source
abbrev pub begins_at : ℕ → Item → Bool
begins_at place (Rule r) = false
begins_at place (KeptRule k) = false
begins_at place (KeptBlock piece) = piece.start == place

-- how many of the opened blocks an item is: one, where the first of them begins where it does
abbrev pub blocks_at : List Media → Item → ℕ
blocks_at [] item = 0
blocks_at (m ∷ media) item = if begins_at m.head.start item then 1 else 0

-- the text of an item: where it is the first of the opened blocks, with the first of these sheets as its body
abbrev pub next_text : List ℕ → List Media → List SheetParts → Item → List ℕ
next_text source [] bodies item = printed_item source item
next_text source (m ∷ media) [] item = printed_item source item
next_text source (m ∷ media) (body ∷ bodies) item = if begins_at m.head.start item then block_text source m body else printed_item source item

-- the texts of items, among which these blocks are opened, in their order, with these sheets as their bodies
abbrev pub texts_with : List ℕ → List Media → List SheetParts → List Item → List ℕ
texts_with source media bodies [] = []
texts_with source media bodies (item ∷ items) =
    next_text source media bodies item ++ texts_with source (drop (blocks_at media item) media) (drop (blocks_at media item) bodies) items

-- The printed text of items, among which these blocks are opened, with these sheets as their bodies (own).
abbrev pub printed_with : List ℕ → List Media → List SheetParts → List Item → List ℕ
printed_with source media bodies items = behind_mark (texts_with source media bodies items)

-- The printed text of a sheet whose blocks of media are opened (own).
abbrev pub printed_opened : List Item → List ℕ → List ℕ
printed_opened items source = printed_with source (opened_of items source) (map (λ m. m.sheet) (opened_of items source)) items

-- a sheet of parts of a block's body
pub record IsSoundBody (source : List ℕ) (m : Media) (body : SheetParts) : Type 0 where
  pub within : IsWithin source m.body
  pub sound : IsSound (text_at source m.body) body.items

-- what is printed behind a token that is kept, before these
abbrev pub behind_kept : Solid → List Lexeme → List ℕ
behind_kept s [] = behind_last s
behind_kept s (x ∷ xs) = between s

-- the sign between a part and these behind it
abbrev pub sign_before : {A : Type 0} → ℕ → List A → List ℕ
sign_before sign [] = []
sign_before sign (x ∷ xs) = sign ∷ []
