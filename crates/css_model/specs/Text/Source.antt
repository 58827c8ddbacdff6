-- The pieces of a source.
use Rattle.std.specs.Prelude.{ℕ, ◌≤◌, List, length, slice_range}
use Rattle.css_model.specs.declared.sheet.Piece.{Piece}

-- a piece lies in a source
pub record IsWithin (source : List ℕ) (piece : Piece) : Type 0 where
  pub ordered : piece.start ≤ piece.end
  pub inside : piece.end ≤ length source

-- the bytes of a piece
abbrev pub text_at : List ℕ → Piece → List ℕ
text_at source piece = slice_range source piece.start piece.end
