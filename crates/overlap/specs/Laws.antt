-- Laws on answers.
use Rattle.std.specs.Prelude.{◌≡◌}
use Rattle.css_model.specs.Cascade.Order.{Meet as TheyMeet}
use Rattle.css_model.specs.Documents.SelectorParts.{SelectorParts}
use Rattle.overlap.specs.Answers.{no_space_left, too_many_stepped}
use Rattle.overlap.specs.declared.answer.Answer.TheVariants.{Apart}
use Rattle.overlap.specs.declared.answer.TheConstants.{NO_SPACE_LEFT, TOO_MANY_STEPPED}
use Rattle.overlap.specs.PairsParts.{PairsParts}
use Rattle.overlap.specs.Remembered.{IsAnswered, IsTrueList}

-- Selectors that a true list calls apart do not meet.
abbrev pub ApartSelectorsDoNotMeet : Type 0
ApartSelectorsDoNotMeet = (pairs : PairsParts) (x y : SelectorParts) → ∥ IsTrueList pairs ∥₁ → IsAnswered pairs.answers x y Apart → TheyMeet x y → ⊥

-- the numbers of the reasons
abbrev pub ReasonsAreDefined : Type 0
ReasonsAreDefined = (TOO_MANY_STEPPED ≡ too_many_stepped) × (NO_SPACE_LEFT ≡ no_space_left)
