-- Laws on what is printed of an input.
use Rattle.std.specs.Prelude.{◌≡◌, ◌⊎◌, ℕ, List, [], ◌∷◌, ◌++◌, map, Some, Ok}
use Rattle.cascade_eval.specs.Entries.{AscendingNames}
use Rattle.cascade_eval.specs.Winners.{applied_in, winner_of}
use Rattle.css_model.specs.declared.example.Example.{Example}
use Rattle.css_model.specs.declared.sheet.Item.{Item}
use Rattle.css_model.specs.Cascade.Winner.{Winner}
use Rattle.css_model.specs.Sheets.Sheet.{sheet_of}
use Rattle.css_model.specs.Text.Characters.{line_feed}
use Rattle.style_text.specs.Inputs.{document_part, sheet_part}
use Rattle.style_text.specs.Lines.{style_text}
use Rattle.style_text.specs.Reading.{IsDocument}
use Rattle.style_text.specs.Styled.{IsStyled}

-- The text has a line for each name of a declaration that applies to the target of the example, and for no other,
-- ascending by code points. It tells what wins among all values that the rules of the sheet give this name, where kept
-- items apply nothing (CSS Cascading 3, section 6).
pub record TellsWinners (x : Example) (items : List Item) (text : List ℕ) : Type 0 where
  pub names : List (List ℕ)
  pub winners : List Winner
  pub ascend : AscendingNames names (applied_in x items)
  pub win : map (winner_of x items) names ≡ map (λ winner. Some winner) winners
  pub text_is : text ≡ style_text items winners

-- What is printed of an input tells the winners of its sheet in its document.
abbrev pub WinnersAreTold : Type 0
WinnersAreTold = (input text : List ℕ) (x : Example) (items : List Item) → IsStyled input text
    → IsDocument (document_part input) x → sheet_of (sheet_part input) ≡ Ok items → TellsWinners x items text

-- An input is its two parts with an empty line between them, or it has no sheet.
abbrev pub InputsHaveTwoParts : Type 0
InputsHaveTwoParts = (input : List ℕ) →
    (input ≡ document_part input ++ line_feed ∷ sheet_part input) ⊎ ((input ≡ document_part input) × (sheet_part input ≡ []))
