-- The lengths of printed selectors, by where they stand (own).
use Rattle.std.specs.Prelude.{◌≡◌, ℕ, ◌<◌, List, Some, length, map, slice_get}
use Rattle.css_model.specs.declared.sheet.Piece.{Piece}
use Rattle.css_model.specs.Sheets.PrintedSelector.{selector_text}
use Rattle.css_model.specs.Sheets.Spelling.{tokens_in}
use Rattle.css_model.specs.Text.Kept.{solid}
use Rattle.saved_bytes.specs.declared.lengths.Known.{Known}

-- the printed text of the selector of this piece
abbrev pub text_of_piece : List ℕ → Piece → List ℕ
text_of_piece source piece = selector_text (map (solid source) (tokens_in source piece))

-- the piece from one place to another
abbrev pub piece_at : ℕ → ℕ → Piece
piece_at start behind = record { start = start; «end» = behind }

-- Under the place where a selector begins its length is known, if it ends where this says.
abbrev pub AreKnown : List ℕ → List Known → Type 0
AreKnown source known = (start : ℕ) (k : Known) → slice_get known start ≡ Some k → 0 < k.behind → length (text_of_piece source (piece_at start k.behind)) ≡ k.len
