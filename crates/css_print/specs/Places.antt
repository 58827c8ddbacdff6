-- The places of a sheet where its pieces begin.
use Rattle.std.specs.Prelude.{ℕ, ◌≡◌, List, drop}
use Rattle.std.specs.List.{Contains}
use Rattle.css_model.specs.declared.sheet.Piece.{Piece}
use Rattle.css_model.specs.declared.token.Lexeme.{Lexeme}
use Rattle.css_model.specs.Sheets.Spelling.{lexemes_of}
use Rattle.css_model.specs.Text.Kept.{Solid}
use Rattle.css_model.specs.Text.Tokens.{stream}
use Rattle.css_print.specs.Words.{solids_to}

-- a token of a sheet that is no white space begins here
pub record BeginsAt (source : List ℕ) (at : ℕ) : Type 0 where
  pub token : Lexeme
  pub among : Contains (lexemes_of source) token
  pub begins : token.span.start ≡ at

-- the tokens from where a piece begins, up to its end
abbrev pub solids_in : List ℕ → Piece → List Solid
solids_in source piece = solids_to piece.«end» source (stream piece.start (drop piece.start source)).tokens
