-- What is read is what the grammar says.
use Rattle.std.specs.Prelude.{ℕ, ◌≡◌, ◌↔◌, List, Option, None, Ok, Err}
use Rattle.std.specs.List.{filter}
use Rattle.css_model.specs.declared.fault.SheetFault.{SheetFault}
use Rattle.css_model.specs.declared.sheet.Item.{Item}
use Rattle.css_model.specs.declared.token.Lexeme.{Lexeme}
use Rattle.css_model.specs.declared.token.Token.{Token}
use Rattle.css_model.specs.Sheets.Items.{is_whole, items}
use Rattle.css_model.specs.Sheets.Sheet.{sheet_of, unclosed}
use Rattle.css_model.specs.Text.Lexemes.{lexemes}
use Rattle.sheet_grammar.specs.Faults.{IsFault}
use Rattle.sheet_grammar.specs.Items.{AreItems}
use Rattle.sheet_grammar.specs.Sheet.{IsSheet}
use Rattle.sheet_grammar.specs.Values.{AreLexemes, AreOpened, AreValues}

-- Tokens without white space that are component values, with the depth of each, are the lexemes that are read, and the
-- bracket that is left open, if any, is the one that is found.
abbrev pub BracketsMatch : Type 0
BracketsMatch = (ts : List Token) (xs : List Lexeme) (left : Option ℕ)
    → (AreLexemes ts xs × AreOpened None 0 left xs) ↔ ((lexemes ts ≡ xs) × (unclosed ts ≡ left))

-- The items of balanced tokens are those of the grammar, and there are no others.
abbrev pub ItemsAreThoseOfTheGrammar : Type 0
ItemsAreThoseOfTheGrammar = (xs : List Lexeme) (found : List (List Lexeme)) → AreValues None 0 xs → AreItems xs found ↔ (filter is_whole (items xs) ≡ found)

-- A source is read as a sheet exactly if it is that by the grammar.
abbrev pub SheetsAreThoseOfTheGrammar : Type 0
SheetsAreThoseOfTheGrammar = (source : List ℕ) (sheet : List Item) → IsSheet source sheet ↔ (sheet_of source ≡ Ok sheet)

-- It has a fault exactly if it has that by the grammar.
abbrev pub FaultsAreThoseOfTheGrammar : Type 0
FaultsAreThoseOfTheGrammar = (source : List ℕ) (fault : SheetFault) → IsFault source fault ↔ (sheet_of source ≡ Err fault)
