-- How the functions answer for each attribute.
use Rattle.std.specs.Prelude.{◌≡◌, ℕ, Bool, true, false, List, map, Result, Ok, Err}
use Rattle.std.specs.Bool.{MatchBool}
use Rattle.std.specs.List.{All}
use Rattle.css_model.specs.declared.selector.AttrTest.{AttrTest}
use Rattle.css_model.specs.Documents.Document.{IsText}
use Rattle.attr_values.specs.declared.solve.Fits.{Fits}
use Rattle.attr_values.specs.Separators.{spaces_taken}
use Rattle.attr_values.specs.Solved.{Solves}
use Rattle.compound_fit.specs.declared.compound.FitError.{FitError}
use Rattle.compound_fit.specs.declared.compound.FitError.TheVariants.{SpacesTaken, NoMemory}
use Rattle.compound_fit.specs.Attributes.{AreNames, tests_of}
use Rattle.compound_fit.specs.Fitting.{SolvesName, SpacesAreTaken}
use Rattle.compound_fit.specs.Ids.{SolvesId}

-- one attribute, by whether it is `id`
abbrev pub IsSolvedName : Bool → Result Fits FitError → List (AttrTest × Bool) → Type 0
IsSolvedName is_id (Ok fits) tests = MatchBool is_id (SolvesId fits tests) ((spaces_taken tests ≡ false) × Solves fits tests)
IsSolvedName is_id (Err SpacesTaken) tests = (is_id ≡ false) × (spaces_taken tests ≡ true)
IsSolvedName is_id (Err NoMemory) tests = Unit {0}

-- all attributes, by ascending names
pub record AreAnswers (answers : List (List ℕ × Fits)) (tests : List (AttrTest × Bool)) : Type 0 where
  pub names : AreNames (map (λ a. a.0) answers) tests
  pub solved : All (λ a. SolvesName a.0 a.1 (tests_of a.0 tests)) answers

-- why there are no answers
abbrev pub IsRefused : FitError → List (AttrTest × Bool) → Type 0
IsRefused SpacesTaken tests = SpacesAreTaken tests
IsRefused NoMemory tests = Unit {0}

-- names and values are texts
abbrev pub AreTexts : List (List ℕ × List ℕ) → Type 0
AreTexts pairs = All (λ a. IsText a.0 × IsText a.1) pairs
