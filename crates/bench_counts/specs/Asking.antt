-- What is asked of the selectors of a sheet, and what kinds of answers are given (own).
use Rattle.std.specs.Prelude.{◌≡◌, ℕ, Bool, true, false, List, [], ◌++◌, map}
use Rattle.std.specs.List.{All, flat_map}
use Rattle.css_model.specs.declared.sheet.Item.{Item}
use Rattle.css_model.specs.declared.sheet.Item.TheVariants.{Rule, KeptRule, KeptBlock}
use Rattle.css_model.specs.Documents.SelectorParts.{SelectorParts}
use Rattle.overlap.specs.Answers.{IsTrueAnswer}
use Rattle.overlap.specs.declared.answer.Answer.{Answer}
use Rattle.overlap.specs.declared.answer.Answer.TheVariants as answers
use Rattle.overlap.specs.PairsParts.{Answered}
use Rattle.bench_counts.specs.declared.answering.Kind.{Kind}
use Rattle.bench_counts.specs.declared.answering.Kind.TheVariants.{Meet, Apart, Outside}

-- ---- The selectors of a sheet

-- the selectors of an item, in order: none of what is kept as it stands
abbrev pub selectors_in : Item → List SelectorParts
selectors_in (Rule r) = map (λ s. s.selector) r.selectors
selectors_in (KeptRule kept) = []
selectors_in (KeptBlock piece) = []

-- those of a sheet, in order, each as often as it stands there
abbrev pub selectors_of : List Item → List SelectorParts
selectors_of items = flat_map selectors_in items

-- ---- What is asked

-- a selector with each of a list
abbrev pub row : SelectorParts → List SelectorParts → List (SelectorParts × SelectorParts)
row x all = map (λ y. (x, y)) all

-- every ordered pair: each selector with each, itself too
abbrev pub ordered_pairs : List SelectorParts → List (SelectorParts × SelectorParts)
ordered_pairs all = flat_map (λ x. row x all) all

-- ---- What is answered

abbrev pub kind_of : Answer → Kind
kind_of answers.Apart = Apart
kind_of (answers.Meet e) = Meet
kind_of (answers.Outside reason number) = Outside
kind_of (answers.Spent ledger) = Outside

-- whether two kinds are one
abbrev pub is_kind : Kind → Kind → Bool
is_kind Meet Meet = true
is_kind Apart Apart = true
is_kind Outside Outside = true
is_kind k l = false

-- a kind of a true answer
abbrev pub IsKind : (budget : ℕ) → SelectorParts → SelectorParts → Kind → Type 0
IsKind budget x y kind = (answer : Answer) × ∥ IsTrueAnswer x y budget answer ∥₁ × (kind ≡ kind_of answer)

-- a true answer for the two selectors that it was asked for
abbrev pub IsTrueFor : (budget : ℕ) → Answered → Type 0
IsTrueFor budget a = ∥ IsTrueAnswer a.left a.right budget a.answer ∥₁

-- the kinds of true answers, one for each of these pairs
pub record AreKinds (budget : ℕ) (asked : List (SelectorParts × SelectorParts)) (kinds : List Kind) : Type 0 where
  pub answers : List Answered
  pub of_each : map (λ a. (a.left, a.right)) answers ≡ asked
  pub are_true : All (IsTrueFor budget) answers
  pub kinds_are : kinds ≡ map (λ a. kind_of a.answer) answers

-- such kinds, put behind others
abbrev pub AddsKinds : (budget : ℕ) → List (SelectorParts × SelectorParts) → (old new : List Kind) → Type 0
AddsKinds budget asked old new = (more : List Kind) × AreKinds budget asked more × (new ≡ old ++ more)
