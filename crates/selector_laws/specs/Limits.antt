-- What each selector that is read keeps to.
use Rattle.std.specs.Prelude.{ℕ, ◌≡◌, ◌≤◌, ◌+◌, ◌⊎◌, List, length, Ok, codes}
use Rattle.std.specs.List.{AllByRecursion, count_by, sum_by}
use Rattle.css_model.specs.declared.selector.Op.TheVariants.{Present, Equal}
use Rattle.css_model.specs.declared.selector.Simple.{Simple}
use Rattle.css_model.specs.declared.selector.Test.{Test}
use Rattle.css_model.specs.declared.selector.Test.TheVariants.{Attr, Nth, NthLast}
use Rattle.css_model.specs.declared.token.Lexeme.{Lexeme}
use Rattle.css_model.specs.Documents.SelectorParts.{SelectorParts}
use Rattle.css_model.specs.Positions.Range.{IsInRange}
use Rattle.css_model.specs.Selectors.Compounds.{is_stepped_test}
use Rattle.css_model.specs.Selectors.Reading.{selector_of_lexemes}
use Rattle.css_model.specs.Sheets.Limits.{max_compounds, max_simples, max_stepped}

-- a position in range, and of the attribute `id` a test for presence or equality
abbrev pub KeepsTest : Test → Type 0
KeepsTest (Nth x) = IsInRange x
KeepsTest (NthLast x) = IsInRange x
KeepsTest (Attr test) = test.name ≡ codes "id" → (test.op ≡ Present) ⊎ (test.op ≡ Equal)
KeepsTest _ = Unit {0}

pub record KeepsCompound (simples : List Simple) : Type 0 where
  pub some : 1 ≤ length simples
  pub few : length simples ≤ max_simples
  pub tests : AllByRecursion (λ simple. KeepsTest simple.test) simples

-- how many positions of a compound, and of a chain of them, have a step of 2 or more in size
abbrev pub stepped_in : List Simple → ℕ
stepped_in simples = count_by (λ simple. is_stepped_test simple.test) simples

abbrev pub stepped_in_chain : List (List Simple) → ℕ
stepped_in_chain chain = sum_by stepped_in chain

pub record KeepsLimits (selector : SelectorParts) : Type 0 where
  pub some : 1 ≤ length selector.chain
  pub few : length selector.chain ≤ max_compounds
  pub links : length selector.links + 1 ≡ length selector.chain
  pub compounds : AllByRecursion KeepsCompound selector.chain
  pub stepped : stepped_in_chain selector.chain ≤ max_stepped

abbrev pub ReadSelectorsKeepTheLimits : Type 0
ReadSelectorsKeepTheLimits =
    (source : List ℕ) (part : List Lexeme) (selector : SelectorParts) → selector_of_lexemes source part ≡ Ok selector → KeepsLimits selector
