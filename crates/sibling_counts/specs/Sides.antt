-- The two sides of a child: what is asked of the siblings before it, of those behind it, and of both.
use Rattle.std.specs.Prelude.{◌≡◌, ℕ, ◌+◌, ◌<◌, ◌≤◌, ◌^◌, ◌==◌, ◌&&◌, Bool, true, false, not, if◌then◌else◌, List, map, Option, Some, None}
use Rattle.std.specs.Bool.{MatchBool}
use Rattle.std.specs.List.{All}
use Rattle.css_model.specs.declared.position.AnB.{AnB}
use Rattle.css_model.specs.declared.selector.Simple.{Simple}
use Rattle.css_model.specs.declared.selector.Test.{Test}
use Rattle.css_model.specs.declared.selector.Test.TheVariants.{Nth, NthLast, OnlyChild, Root}
use Rattle.css_model.specs.Documents.Matching.{IsNth}
use Rattle.css_model.specs.Positions.Range.{IsInRange}
use Rattle.nth_positions.specs.Gaps.{period_of, threshold_of}
use Rattle.sibling_counts.specs.declared.side.Asked.{Asked}

-- the test of the position among the siblings from the first on, and from the last on
abbrev pub front_of : Test → (negated : Bool) → Option Asked
front_of (Nth x) negated = Some (record { positions = x; negated = negated })
front_of _ negated = None

abbrev pub behind_of : Test → (negated : Bool) → Option Asked
behind_of (NthLast x) negated = Some (record { positions = x; negated = negated })
behind_of _ negated = None

abbrev pub front_test : Simple → Option Asked
front_test s = front_of s.test s.negated

abbrev pub behind_test : Simple → Option Asked
behind_test s = behind_of s.test s.negated

-- with so many siblings on that side, a test passes
abbrev pub PassesTest : ℕ → Asked → Type 0
PassesTest number t = MatchBool t.negated (IsNth t.positions (number + 1) → ⊥) (IsNth t.positions (number + 1))

abbrev pub PassesTests : List Asked → ℕ → Type 0
PassesTests tests number = All (PassesTest number) tests

-- the positions that tests ask for, and the number below which gaps need not be looked at for them
abbrev pub positions_of : List Asked → List AnB
positions_of tests = map (λ t. t.positions) tests

abbrev pub limit_of : List Asked → ℕ
limit_of tests = threshold_of (positions_of tests) + period_of (positions_of tests)

-- the least number from some number on that passes
pub record IsLeastFrom (P : ℕ → Type 0) (start number : ℕ) : Type 0 where
  pub from : start ≤ number
  pub passes : P number
  pub least : (n : ℕ) → start ≤ n → n < number → P n → ⊥

abbrev pub NoneFrom : (ℕ → Type 0) → ℕ → Type 0
NoneFrom P start = (n : ℕ) → start ≤ n → P n → ⊥

-- whether a test of an only child, or of the root, holds of a child that is alone, or is not
abbrev pub both_of : (alone : Bool) → Test → (negated : Bool) → Bool
both_of alone OnlyChild negated = if negated then not alone else alone
both_of alone Root negated = negated
both_of alone _ negated = true

abbrev pub both_hold : (alone : Bool) → Simple → Bool
both_hold alone s = both_of alone s.test s.negated

-- ---- Both sides together

-- a child with so many siblings before it and behind it passes on each side, and what is asked of both holds
abbrev pub BothPass : (front behind : ℕ → Type 0) → (alone apart : Bool) → ℕ → ℕ → Type 0
BothPass front behind alone apart b a = front b × behind a × ((if (b == 0) && (a == 0) then alone else apart) ≡ true)

pub record BothLeast (front behind : ℕ → Type 0) (alone apart : Bool) (b a : ℕ) : Type 0 where
  pub passes : BothPass front behind alone apart b a
  pub least_before : (b' a' : ℕ) → b' < b → BothPass front behind alone apart b' a' → ⊥
  pub least_behind : (a' : ℕ) → a' < a → BothPass front behind alone apart b a' → ⊥

abbrev pub NoneLeast : (front behind : ℕ → Type 0) → (alone apart : Bool) → Type 0
NoneLeast front behind alone apart = (b a : ℕ) → BothPass front behind alone apart b a → ⊥

-- what is asked of positions is in range, and the limit is theirs
pub record IsLimit (tests : List Asked) (limit : ℕ) : Type 0 where
  pub in_range : All IsInRange (positions_of tests)
  pub is : limit ≡ limit_of tests
  pub small : limit < 2 ^ 26
