-- Small sheets, and what the grammar makes of their tokens.
use Rattle.std.specs.Prelude.{ℕ, ◌≡◌, true, List, [], ◌∷◌, Option, Some, None, codes, length, map}
use Rattle.std.proofs.Common.{ap, sym}
use Rattle.css_model.specs.declared.sheet.Piece.{Piece}
use Rattle.css_model.specs.declared.token.Lexeme.{Lexeme}
use Rattle.css_model.specs.declared.token.Token.{Token}
use Rattle.css_model.specs.Text.Lexemes.{lexemes, piece_of}
use Rattle.css_model.specs.Text.Tokens.{tokens}
use Rattle.sheet_grammar.specs.Entries.{ArePartsBy}
use Rattle.sheet_grammar.specs.Items.{AreItems}
use Rattle.sheet_grammar.specs.Values.{AreLexemes, AreOpened}
use Rattle.sheet_grammar.proofs.EntryProofs.{parts_read}
use Rattle.sheet_grammar.proofs.ItemProofs.{items_read}
use Rattle.sheet_grammar.proofs.StackProofs.{brackets_match}

abbrev tokens_of : List ℕ → List Token
tokens_of text = (tokens text true).tokens

abbrev lexemes_of : List ℕ → List Lexeme
lexemes_of text = lexemes (tokens_of text)

abbrev from_to : ℕ → ℕ → Piece
from_to m n = record { start = m; «end» = n }

-- the places of the items of a text
abbrev ItemsAt : List ℕ → List Piece → Type 0
ItemsAt text places = (found : List (List Lexeme)) → AreItems (lexemes_of text) found → map piece_of found ≡ places

-- at-rules that a semicolon, a block and the end of the sheet end (section 5.4.2)
at_rules : ItemsAt (codes "@a b;@c{d;e}@f") (from_to 0 5 ∷ from_to 5 12 ∷ from_to 12 14 ∷ [])
at_rules found are = ap (map piece_of) (sym (items_read (lexemes_of (codes "@a b;@c{d;e}@f")) found are))

-- a qualified rule, and one that has no block (section 5.4.3)
qualified_rules : ItemsAt (codes "a;b{} c d") (from_to 0 5 ∷ [])
qualified_rules found are = ap (map piece_of) (sym (items_read (lexemes_of (codes "a;b{} c d")) found are))

-- `<!--` and `-->` between items and in one (section 5.4.1)
between_items : ItemsAt (codes "<!--a{}-->b -->{}") (from_to 4 7 ∷ from_to 10 17 ∷ [])
between_items found are = ap (map piece_of) (sym (items_read (lexemes_of (codes "<!--a{}-->b -->{}")) found are))

-- what is in brackets ends nothing, and a closer of another bracket is a value (sections 5.4.7 and 5.4.8)
bracketed : ItemsAt (codes "@a(;{}[)]);b]{(})}") (from_to 0 11 ∷ from_to 11 18 ∷ [])
bracketed found are = ap (map piece_of) (sym (items_read (lexemes_of (codes "@a(;{}[)]);b]{(})}")) found are))

-- a bracket that is left open: the outermost one counts
left_open : (xs : List Lexeme) (left : Option ℕ) → AreLexemes (tokens_of (codes "a{}b{(}")) xs → AreOpened None 0 left xs → Some 4 ≡ left
left_open xs left are opened = ((brackets_match (tokens_of (codes "a{}b{(}")) xs left).0 (are, opened)).1

-- the parts of a row between semicolons, with an empty one (section 5.4.4)
parts : (found : List (List Lexeme)) → ArePartsBy 59 0 (lexemes_of (codes "a:b;;c(;)")) found → map (λ (t : List Lexeme). length t) found ≡ 3 ∷ 0 ∷ 3 ∷ []
parts found are = ap (map (λ (t : List Lexeme). length t)) (sym (parts_read 59 0 (lexemes_of (codes "a:b;;c(;)")) found are))
