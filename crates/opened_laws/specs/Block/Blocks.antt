-- What the printed text of an opened block is read back as.
use Rattle.std.specs.Prelude.{ℕ, ◌≡◌, ◌≤◌, true, List, length, Ok}
use Rattle.std.specs.List.{AllByRecursion}
use Rattle.css_model.specs.declared.sheet.Item.{Item}
use Rattle.css_model.specs.declared.token.Lexeme.{Lexeme}
use Rattle.css_model.specs.Sheets.ComesFrom.{ComesFrom}
use Rattle.css_model.specs.Sheets.Limits.{max_bytes}
use Rattle.css_model.specs.Sheets.Printed.{printed}
use Rattle.css_model.specs.Sheets.Sheet.{sheet_of}
use Rattle.css_model.specs.Sheets.SheetParts.{SheetParts}
use Rattle.css_model.specs.Sheets.Spelling.{kept_text, tokens_in}
use Rattle.css_model.specs.Text.Source.{text_at}
use Rattle.media_groups.specs.declared.media.Media.{Media}
use Rattle.media_groups.specs.Opened.{body_of, head_of, is_media, opened_of}
use Rattle.media_groups.specs.Printed.{block_text}
use Rattle.print_laws.specs.Replaced.{IsWholeBlock, whole_piece}

-- the tokens of a text
abbrev pub whole_tokens : List ℕ → List Lexeme
whole_tokens text = tokens_in text (whole_piece text)

-- A text that is one block `@media` by itself, of this head and this body (own).
pub record IsMediaText (text head body : List ℕ) : Type 0 where
  pub whole : IsWholeBlock text
  pub media : is_media text (whole_tokens text) ≡ true
  pub same_head : kept_text text (head_of (whole_tokens text)) ≡ head
  pub same_body : text_at text (body_of (whole_tokens text)) ≡ body

-- An opened block that is printed with a sheet of parts of its body is such a text, where it is not too long: its head is the
-- block's, and its body the printed text of that sheet.
abbrev pub ReadsBackAsBlock : List ℕ → Media → Type 0
ReadsBackAsBlock source m = (body : SheetParts) → ComesFrom (text_at source m.body) m.sheet.items body.items → length (block_text source m body) ≤ max_bytes
    → IsMediaText (block_text source m body) (kept_text source m.head) (printed (text_at source m.body) body.items)

-- so is each opened block of a source that is read
abbrev pub BlocksReadBack : Type 0
BlocksReadBack = (source : List ℕ) (old : List Item) → sheet_of source ≡ Ok old → AllByRecursion (ReadsBackAsBlock source) (opened_of old source)
