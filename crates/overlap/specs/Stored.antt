-- How answers are kept (own): a list of the selectors that were asked, and the answers with the places of both
-- selectors in it.
use Rattle.std.specs.Prelude.{◌≡◌, ◌≢◌, ◌⊎◌, ℕ, ◌<◌, List, [], ◌++◌, map, length, get_or, slice_get, Option, Some, None}
use Rattle.std.specs.List.{All, IsDistinct}
use Rattle.css_model.specs.contracts.selector.SelectorPartialEq.TheImpl as selector
use Rattle.css_model.specs.Documents.SelectorParts.{SelectorParts}
use Rattle.overlap.specs.declared.answer.Answer.{Answer}
use Rattle.overlap.specs.declared.store.Places.{Places}
use Rattle.overlap.specs.PairsParts.{Answered}

-- a selector of nothing, which stands at no place
abbrev pub nothing : SelectorParts
nothing = record { chain = []; links = []; pseudo = None }

-- what is kept of a pair, with its selectors
abbrev pub answered : List SelectorParts → Places × Answer → Answered
answered selectors e = record {
  left = get_or selectors e.0.left nothing;
  right = get_or selectors e.0.right nothing;
  answer = e.1;
}

abbrev pub answers_of : List SelectorParts → List (Places × Answer) → List Answered
answers_of selectors entries = map (answered selectors) entries

-- no selector stands twice
abbrev pub IsOnce : List SelectorParts → Type 0
IsOnce selectors = IsDistinct (selector.ghosts).eq selectors

-- Each selector stands once, and each answer is one for places in the list.
pub record IsStore (selectors : List SelectorParts) (entries : List (Places × Answer)) : Type 0 where
  pub once : IsOnce selectors
  pub within : All (λ e. (e.0.left < length selectors) × (e.0.right < length selectors)) entries

-- where a selector stands, if it does
abbrev pub IsPlace : List SelectorParts → SelectorParts → Option ℕ → Type 0
IsPlace selectors x None = All (λ s. s ≢ x) selectors
IsPlace selectors x (Some place) = slice_get selectors place ≡ Some x

-- both stand at these places
abbrev pub AreAt : List SelectorParts → SelectorParts → SelectorParts → Places → Type 0
AreAt selectors x y places = (slice_get selectors places.left ≡ Some x) × (slice_get selectors places.right ≡ Some y)

-- where both stand, or that one stands nowhere
abbrev pub ArePlaces : List SelectorParts → SelectorParts → SelectorParts → Option Places → Type 0
ArePlaces selectors x y None = All (λ s. s ≢ x) selectors ⊎ All (λ s. s ≢ y) selectors
ArePlaces selectors x y (Some places) = AreAt selectors x y places

-- more selectors behind those that stood there, and none twice
abbrev pub Adds : List SelectorParts → List SelectorParts → Type 0
Adds old new = ((more : List SelectorParts) × (new ≡ old ++ more)) × IsOnce new

-- no answer is kept for these places
abbrev pub HasNone : List (Places × Answer) → Places → Type 0
HasNone entries places = All (λ e. e.0 ≢ places) entries
