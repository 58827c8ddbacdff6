-- Kept blocks with one kept text.
use Rattle.std.specs.Prelude.{ℕ, ◌≡◌, List, Ok, is_some}
use Rattle.css_model.specs.declared.sheet.Item.{Item}
use Rattle.css_model.specs.declared.sheet.Piece.{Piece}
use Rattle.css_model.specs.Sheets.Sheet.{is_import, sheet_of}
use Rattle.css_model.specs.Sheets.Sound.{IsSoundBlock}
use Rattle.css_model.specs.Sheets.Spelling.{kept_text, tokens_in}
use Rattle.media_groups.specs.Opened.{opened_rule}

-- Two kept blocks are an `@import` alike, and opened alike (own): both are or neither is, each by itself.
pub record AreOpenedAlike (source other : List ℕ) (piece piece' : Piece) : Type 0 where
  pub imports : is_import source (tokens_in source piece) ≡ is_import other (tokens_in other piece')
  pub opened : (n n' : ℕ) → is_some (opened_rule source n (tokens_in source piece)) ≡ is_some (opened_rule other n' (tokens_in other piece'))

-- Two kept blocks of sheets that are read, with one kept text, are opened alike (own). So white space and comments do not decide it.
abbrev pub SameTextsAreOpenedAlike : Type 0
SameTextsAreOpenedAlike = (source : List ℕ) (items : List Item) (other : List ℕ) (others : List Item) → sheet_of source ≡ Ok items → sheet_of other ≡ Ok others →
    (piece piece' : Piece) → IsSoundBlock source piece → IsSoundBlock other piece' → kept_text source piece ≡ kept_text other piece' → AreOpenedAlike source other piece piece'
