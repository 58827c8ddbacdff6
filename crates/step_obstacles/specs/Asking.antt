-- Answers that are asked for, within a bound on how many are held (own).
use Rattle.std.specs.Prelude.{◌≡◌, ℕ, List, Option, length}
use Rattle.css_model.specs.Documents.SelectorParts.{SelectorParts}
use Rattle.obstacles.specs.Bounds.{AreWithin}
use Rattle.overlap.specs.declared.answer.Answer.{Answer}
use Rattle.overlap.specs.PairsParts.{Answered}
use Rattle.overlap.specs.Remembered.{IsAnswered}

-- The budget of learned clauses for each pair, the answers, and how many may be held, if there is a bound.
pub record AskedParts : Type 0 where
  pub budget : ℕ
  pub answers : List Answered
  pub most : Option ℕ

-- All that was held is held, with the same budget and the same bound, and within that bound.
pub record Stays (old new : AskedParts) : Type 0 where
  pub budget : new.budget ≡ old.budget
  pub most : new.most ≡ old.most
  pub held : (x y : SelectorParts) (answer : Answer) → IsAnswered old.answers x y answer → IsAnswered new.answers x y answer
  pub within : AreWithin old.most (length old.answers) (length new.answers)
