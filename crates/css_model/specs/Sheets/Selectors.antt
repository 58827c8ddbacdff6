-- The selectors of a rule, by the parts of its prelude (Selectors 3, section 5).
use Rattle.std.specs.Prelude.{ℕ, List, Result, Ok, Err}
use Rattle.css_model.specs.declared.reason.Reason.{Reason}
use Rattle.css_model.specs.declared.sheet.Piece.{Piece}
use Rattle.css_model.specs.declared.sheet.SelItem.{SelItem}
use Rattle.css_model.specs.declared.token.Lexeme.{Lexeme}
use Rattle.css_model.specs.Documents.SelectorParts.{SelectorParts}
use Rattle.css_model.specs.Lists.{all_of}
use Rattle.css_model.specs.Selectors.Reading.{selector_of_lexemes}
use Rattle.css_model.specs.Sheets.Items.{selector_parts}
use Rattle.css_model.specs.Text.Lexemes.{piece_of}

-- what was read of a selector's text, with its place
abbrev pub with_piece : Piece → Result SelectorParts Reason → Result SelItem Reason
with_piece piece (Ok selector) = Ok (record { selector = selector; piece = piece })
with_piece piece (Err reason) = Err reason

-- a part of a prelude as a selector, or the reason why it is outside the profile (own)
abbrev pub selector_item : List ℕ → List Lexeme → Result SelItem Reason
selector_item source part = with_piece (piece_of part) (selector_of_lexemes source part)

-- The selectors of a rule, or the reason against the first part of its prelude that is outside the profile. An
-- empty part is (Selectors 3, section 5: a group with an invalid selector is invalid).
abbrev pub selectors : List ℕ → List Lexeme → Result (List SelItem) Reason
selectors source item = all_of (selector_item source) (selector_parts item)
