-- Laws on what is told of the selectors of a sheet, by the lines of the text.
use Rattle.std.specs.Prelude.{◌≡◌, ℕ, List, ◌∷◌, ◌++◌, codes}
use Rattle.std.specs.List.{Contains}
use Rattle.css_model.specs.declared.example.Example.{Example}
use Rattle.css_model.specs.declared.sheet.Item.{Item}
use Rattle.dead_sel.specs.Living.{MatchesNothing, ShowsMatch}
use Rattle.doc_text.specs.DocText.{doc_lines}
use Rattle.doc_text.specs.Lines.{lines_of}
use Rattle.overlap.specs.PairsParts.{PairsParts}
use Rattle.dead_text.specs.DeadTexts.{TellsOf, numbered_line}
use Rattle.dead_text.specs.Listing.{NumberedSelector, numbered_selectors}

-- a line is that of this selector of a sheet, of which a word is told
pub record IsLineOf (items : List Item) (line word : List ℕ) (s : NumberedSelector) : Type 0 where
  pub listed : Contains (numbered_selectors items) s
  pub line_is : line ≡ numbered_line s.item s.number word

-- Each line `ITEM.NUMBER dead` is that of a selector of the sheet which matches no target of a legal document.
abbrev pub DeadSelectorsMatchNothing : Type 0
DeadSelectorsMatchNothing =
    (pairs : PairsParts) (source text : List ℕ) (tells : TellsOf pairs source text) (item number : ℕ) (before behind : List (List ℕ))
    → lines_of text ≡ before ++ numbered_line item number (codes "dead") ∷ behind
    → (s : NumberedSelector) × IsLineOf tells.items (numbered_line item number (codes "dead")) (codes "dead") s × MatchesNothing s.selector

-- Each line `ITEM.NUMBER alive` is that of a selector of the sheet, and behind it stand the lines of an example, in
-- which this selector matches the marked element of a legal document.
abbrev pub AliveSelectorsMatch : Type 0
AliveSelectorsMatch =
    (pairs : PairsParts) (source text : List ℕ) (tells : TellsOf pairs source text) (item number : ℕ) (before behind : List (List ℕ))
    → lines_of text ≡ before ++ numbered_line item number (codes "alive") ∷ behind
    → (s : NumberedSelector) × IsLineOf tells.items (numbered_line item number (codes "alive")) (codes "alive") s
    × (example : Example) × (more : List (List ℕ)) × (behind ≡ doc_lines example ++ more) × ∥ ShowsMatch s.selector example ∥₁
