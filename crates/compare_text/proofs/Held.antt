-- Answers that are held.
use Rattle.std.proofs.Common.{◌≡◌, ℕ, List, refl}
use Rattle.std.proofs.lemmas.List.Elements.{All-contains}
use Rattle.css_model.specs.Documents.SelectorParts.{SelectorParts}
use Rattle.overlap.specs.declared.answer.Answer.{Answer}
use Rattle.overlap.specs.PairsParts.{Answered, PairsParts}
use Rattle.overlap.specs.Remembered.{IsAnswered, IsHeld, IsOfOther, IsTrueList, IsUnknown}
use Rattle.compare_text.specs.ComparedTexts.{answer_text, IsTextOfAnswer}

-- what is held is not unknown
pub not_unknown : (answers : List Answered) (x y : SelectorParts) → IsHeld answers x y → IsUnknown answers x y → ⊥
not_unknown answers x y held none = All-contains (IsOfOther x y) answers (record { left = x; right = y; answer = held.0 }) none held.1 (refl, refl)

-- the text of an answer that is held in a true list
pub text_of_answer : (pairs : PairsParts) (x y : SelectorParts) (answer : Answer) (text : List ℕ) → IsAnswered pairs.answers x y answer → ∥ IsTrueList pairs ∥₁ → text ≡ answer_text answer
    → IsTextOfAnswer x y pairs text
text_of_answer pairs x y answer text held all_true is = record { answer = answer; held = held; all_true = all_true; text_is = is }
