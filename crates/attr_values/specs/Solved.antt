-- What is answered for tests of one attribute's value, and the law that it rests on.
use Rattle.std.specs.Prelude.{◌≡◌, ℕ, Bool, true, false, List, Result, Ok, Err}
use Rattle.css_model.specs.declared.selector.AttrTest.{AttrTest}
use Rattle.attr_values.specs.declared.solve.Fits.{Fits}
use Rattle.attr_values.specs.declared.solve.Fits.TheVariants.{Absent, Value, Nothing}
use Rattle.attr_values.specs.declared.solve.ValueError.{ValueError}
use Rattle.attr_values.specs.declared.solve.ValueError.TheVariants.{SpacesTaken, NoMemory}
use Rattle.attr_values.specs.Asked.{PassesAsAsked, is_asked}
use Rattle.attr_values.specs.Separators.{IsFirstUnused, spaces_taken, free_space}
use Rattle.attr_values.specs.Value.{candidate}

-- v is the value that is tried
pub record IsCandidate (v : List ℕ) (tests : List (AttrTest × Bool)) : Type 0 where
  pub separator : ℕ
  pub first : IsFirstUnused separator tests
  pub is : v ≡ candidate separator (free_space tests) tests

-- The attribute stays away exactly where no test is asked to hold. Otherwise its value is the one that is
-- tried, which passes as asked; or nothing passes, no list of numbers at all.
abbrev pub Solves : Fits → List (AttrTest × Bool) → Type 0
Solves Absent tests = is_asked tests ≡ false
Solves (Value v) tests = (is_asked tests ≡ true) × PassesAsAsked tests v × IsCandidate v tests
Solves Nothing tests = (is_asked tests ≡ true) × ((s : List ℕ) → PassesAsAsked tests s → ⊥)

-- the white spaces come first
abbrev pub IsSolved : Result Fits ValueError → List (AttrTest × Bool) → Type 0
IsSolved (Ok fits) tests = (spaces_taken tests ≡ false) × Solves fits tests
IsSolved (Err SpacesTaken) tests = spaces_taken tests ≡ true
IsSolved (Err NoMemory) tests = Unit {0}

-- Where a white space is left and some text passes as asked, the value that is tried does.
abbrev pub CandidatePasses : Type 0
CandidatePasses = (tests : List (AttrTest × Bool)) (s : List ℕ) (f : ℕ) → IsFirstUnused f tests → spaces_taken tests ≡ false →
    PassesAsAsked tests s → PassesAsAsked tests (candidate f (free_space tests) tests)
