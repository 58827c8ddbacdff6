-- Two texts compared as selectors, and the text of the answer (own).
use Rattle.std.specs.Prelude.{◌≡◌, ℕ, nat_lt, if◌then◌else◌, List, [], ◌∷◌, ◌++◌, length, Result, Ok, Err, codes, decimal}
use Rattle.css_model.specs.declared.reason.Reason.{Reason}
use Rattle.css_model.specs.declared.reason.Reason.TheVariants.{NotAllowed}
use Rattle.css_model.specs.Documents.SelectorParts.{SelectorParts}
use Rattle.css_model.specs.Selectors.Reading.{selector_of}
use Rattle.css_model.specs.Selectors.Reasons.{number_of}
use Rattle.css_model.specs.Sheets.Limits.{max_bytes}
use Rattle.css_model.specs.Text.Characters.{line_feed}
use Rattle.doc_text.specs.DocText.{doc_text}
use Rattle.overlap.specs.PairsParts.{PairsParts}
use Rattle.overlap.specs.Remembered.{Asks, IsAnswered, IsTrueList}
use Rattle.overlap.specs.declared.answer.Answer.{Answer}
use Rattle.overlap.specs.declared.answer.Answer.TheVariants.{Apart, Meet, Outside, Spent}

-- ---- What is compared

-- a selector, or the number of the reason
abbrev pub numbered : Result SelectorParts Reason → Result SelectorParts ℕ
numbered (Ok selector) = Ok selector
numbered (Err reason) = Err (number_of reason)

-- The selector of a text, or the number of the reason why it is outside of the profile. A text of more than
-- `max_bytes` bytes is not read, and is outside as one with a token that is not allowed.
unfoldable pub selector_or_reason : List ℕ → Result SelectorParts ℕ
selector_or_reason text = if nat_lt max_bytes (length text) then Err (number_of NotAllowed) else numbered (selector_of text)

-- ---- What is printed

-- the line of a text, or of a pair, outside of what is compared
abbrev pub outside_text : (reason : ℕ) → List ℕ
outside_text reason = codes "outside " ++ decimal reason ++ line_feed ∷ []

-- the lines of an answer, with a document where the selectors meet
abbrev pub answer_text : Answer → List ℕ
answer_text Apart = codes "disjoint" ++ line_feed ∷ []
answer_text (Meet example) = codes "overlap" ++ line_feed ∷ doc_text example
answer_text (Outside reason number) = outside_text reason
answer_text (Spent ledger) = codes "spent" ++ line_feed ∷ []

-- The text of the answer that is held for two selectors. What is held are true answers.
pub record IsTextOfAnswer (x y : SelectorParts) (pairs : PairsParts) (text : List ℕ) : Type 0 where
  pub answer : Answer
  pub held : IsAnswered pairs.answers x y answer
  pub all_true : ∥ IsTrueList pairs ∥₁
  pub text_is : text ≡ answer_text answer

-- What is printed of two texts, over the answers that are held afterwards: of two selectors their answer, and
-- else the reason of the first text that is none.
abbrev pub IsCompared : (left right : Result SelectorParts ℕ) → PairsParts → (text : List ℕ) → Type 0
IsCompared (Ok x) (Ok y) pairs text = IsTextOfAnswer x y pairs text
IsCompared (Ok x) (Err reason) pairs text = text ≡ outside_text reason
IsCompared (Err reason) right pairs text = text ≡ outside_text reason

-- ---- What is asked

-- two selectors are asked for, and nothing where a text is none
abbrev pub AsksFor : (left right : Result SelectorParts ℕ) → (old new : PairsParts) → Type 0
AsksFor (Ok x) (Ok y) old new = Asks old new x y
AsksFor (Ok x) (Err reason) old new = new ≡ old
AsksFor (Err reason) right old new = new ≡ old
