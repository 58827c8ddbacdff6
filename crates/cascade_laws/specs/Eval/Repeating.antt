-- Elements side by side of which more change nothing (own).
use Rattle.std.specs.Prelude.{◌≡◌, ℕ, ◌+◌, ◌*◌, ◌≤◌, Bool, List}
use Rattle.css_model.specs.declared.selector.Combinator.{Combinator}
use Rattle.cascade_laws.specs.declared.reaching.Reached.{Reached}
use Rattle.cascade_laws.specs.Eval.Reaching.{passed}

-- with at least so many siblings before and behind, what holds repeats after a period
abbrev pub Repeats : (ℕ → ℕ → List Bool) → (threshold period : ℕ) → Type 0
Repeats tests threshold period = (before behind : ℕ) → threshold ≤ before → threshold ≤ behind → tests before (period + behind) ≡ tests (period + before) behind

-- Where a period of elements leaves what is known as it was, so do so many periods behind it.
abbrev pub RepeatingChangesNothing : Type 0
RepeatingChangesNothing =
    (tests : ℕ → ℕ → List Bool) (links : List Combinator) (threshold period times before behind : ℕ) (rs : List Reached) →
    Repeats tests threshold period → threshold ≤ before → threshold ≤ behind →
    passed tests links period before (times * period + behind) rs ≡ rs →
    passed tests links (times * period) (period + before) behind rs ≡ rs
