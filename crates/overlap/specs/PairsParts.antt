-- What a contract sees of remembered answers.
use Rattle.std.specs.Prelude.{ℕ, List}
use Rattle.css_model.specs.Documents.SelectorParts.{SelectorParts}
use Rattle.overlap.specs.declared.answer.Answer.{Answer}

-- an answer with the two selectors that it was asked for, the one that was asked first as `left`
pub record Answered : Type 0 where
  pub left : SelectorParts
  pub right : SelectorParts
  pub answer : Answer

-- the budget of learned clauses for each pair, and the answers in the order in which they were given
pub record PairsParts : Type 0 where
  pub budget : ℕ
  pub answers : List Answered
