-- A style sheet apart from how its kept items are spelled, and from where its parts stand.
use Rattle.std.specs.Prelude.{ℕ, ◌≡◌, nat_le, ◌&&◌, Bool, true, List, map}
use Rattle.std.specs.List.{filter}
use Rattle.css_model.specs.declared.sheet.Decl.{Decl}
use Rattle.css_model.specs.declared.sheet.Item.{Item}
use Rattle.css_model.specs.declared.sheet.Item.TheVariants.{Rule, KeptRule, KeptBlock}
use Rattle.css_model.specs.declared.sheet.Piece.{Piece}
use Rattle.css_model.specs.declared.token.Lexeme.{Lexeme}
use Rattle.css_model.specs.Text.Kept.{solid, kept}
use Rattle.css_model.specs.Text.Lexemes.{lexemes}
use Rattle.css_model.specs.Sheets.StyleRule.{StyleRule, style_rule}
use Rattle.css_model.specs.Text.Tokens.{tokens}

-- the tokens of a sheet that are no white space
abbrev pub lexemes_of : List ℕ → List Lexeme
lexemes_of source = lexemes (tokens source true).tokens

-- a token stands in a piece
abbrev pub stands_in : Piece → Lexeme → Bool
stands_in piece x = nat_le piece.start x.span.start && nat_le x.span.«end» piece.«end»

-- the tokens of a sheet that stand in a piece
abbrev pub tokens_in : List ℕ → Piece → List Lexeme
tokens_in source piece = filter (stands_in piece) (lexemes_of source)

-- the kept text of a piece of a sheet
abbrev pub kept_text : List ℕ → Piece → List ℕ
kept_text source piece = kept (map (solid source) (tokens_in source piece))

-- what an item says: a style rule its selectors and declarations, a kept item its kept text
pub data Content : Type 0 where
  Style : StyleRule → Content
  Kept : List ℕ → List Decl → ℕ → Content
  Block : List ℕ → Content

abbrev pub content : List ℕ → Item → Content
content source (Rule r) = Style (style_rule r)
content source (KeptRule k) = Kept (kept_text source k.piece) k.decls k.reason
content source (KeptBlock piece) = Block (kept_text source piece)

abbrev pub all_content : List ℕ → List Item → List Content
all_content source items = map (content source) items

-- two sheets, each with its source, are the same up to spelling
abbrev pub AreSame : List ℕ → List Item → List ℕ → List Item → Type 0
AreSame source items source' items' = all_content source items ≡ all_content source' items'
