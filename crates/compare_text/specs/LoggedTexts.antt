-- Two texts compared, with the log of a refutation in the place of its answer (own).
use Rattle.std.specs.Prelude.{◌≡◌, ℕ, List, Option, Some, None, Result, Ok, Err}
use Rattle.cnf.specs.Cnf.{Cnf}
use Rattle.cnf.specs.declared.lit.Lit.{Lit}
use Rattle.css_model.specs.Documents.SelectorParts.{SelectorParts}
use Rattle.overlap.specs.Answers.{IsLogOf}
use Rattle.overlap.specs.PairsParts.{PairsParts}
use Rattle.overlap.specs.Remembered.{IsAnswered, IsTrueList}
use Rattle.overlap.specs.declared.answer.Answer.{Answer}
use Rattle.rup_check.specs.Reading.{IsLogText}
use Rattle.compare_text.specs.ComparedTexts.{answer_text, outside_text}

-- the text of an answer, or that of the log that stands in its place
abbrev pub IsLoggedText : Answer → Option (Cnf × List (List Lit)) → (text : List ℕ) → Type 0
IsLoggedText answer None text = text ≡ answer_text answer
IsLoggedText answer (Some log) text = IsLogText text log.0 log.1

-- The text of the answer that is held for two selectors, or of its log: exactly where they do not meet, both are of
-- one pseudo-element, and one has a combinator, there is a log, the formula of the two and a ledger that refutes it.
pub record IsTextWithLog (x y : SelectorParts) (pairs : PairsParts) (text : List ℕ) : Type 0 where
  pub answer : Answer
  pub held : IsAnswered pairs.answers x y answer
  pub all_true : ∥ IsTrueList pairs ∥₁
  pub log : Option (Cnf × List (List Lit))
  pub is_log : IsLogOf x y pairs.budget answer log
  pub text_is : IsLoggedText answer log text

-- What is printed of two texts, as without logs but for the log.
abbrev pub IsComparedWithLog : (left right : Result SelectorParts ℕ) → PairsParts → (text : List ℕ) → Type 0
IsComparedWithLog (Ok x) (Ok y) pairs text = IsTextWithLog x y pairs text
IsComparedWithLog (Ok x) (Err reason) pairs text = text ≡ outside_text reason
IsComparedWithLog (Err reason) right pairs text = text ≡ outside_text reason
