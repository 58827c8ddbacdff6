-- What it means that a selector is dead by what is held, or that it is not.
use Rattle.std.specs.Prelude.{◌≡◌, ◌⊎◌, true, false, List}
use Rattle.cnf.specs.declared.lit.Lit.{Lit}
use Rattle.css_model.specs.Documents.SelectorParts.{SelectorParts}
use Rattle.css_model.specs.Selectors.Profile.{IsInProfile}
use Rattle.overlap.specs.Answers.{no_space_left}
use Rattle.overlap.specs.declared.answer.Answer.TheVariants.{Outside, Spent}
use Rattle.overlap.specs.PairsParts.{Answered, PairsParts}
use Rattle.overlap.specs.Remembered.{IsAnswered, IsHeld, IsTrueList}
use Rattle.dead_sel.specs.Held.{is_dead}
use Rattle.dead_sel.specs.Living.{MatchesNothing, every}

-- A selector that is dead by true answers matches no target of a legal document.
abbrev pub DeadMatchNothing : Type 0
DeadMatchNothing = (pairs : PairsParts) → ∥ IsTrueList pairs ∥₁ → (s : SelectorParts) → is_dead pairs.answers s ≡ true → MatchesNothing s

-- the answer for a selector and `*` decides nothing: no white space is left to separate a word with, or the budget was
-- spent (own)
abbrev pub IsUndecided : List Answered → SelectorParts → Type 0
IsUndecided answers s = IsAnswered answers s (every s.pseudo) (Outside no_space_left 0) ⊎ ((ledger : List (List Lit)) × IsAnswered answers s (every s.pseudo) (Spent ledger))

-- A selector of the profile that was asked for, matches nothing, and is not dead by true answers, was not decided.
abbrev pub OthersAreUndecided : Type 0
OthersAreUndecided = (pairs : PairsParts) → ∥ IsTrueList pairs ∥₁ → (s : SelectorParts) → IsInProfile s → IsHeld pairs.answers s (every s.pseudo) →
    is_dead pairs.answers s ≡ false → MatchesNothing s → IsUndecided pairs.answers s
