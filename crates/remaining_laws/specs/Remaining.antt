-- Why the steps that remain in a merged sheet are blocked (own).
use Rattle.std.specs.Prelude.{◌≡◌, ◌⊎◌, ℕ, ◌<◌, List, Ok, map}
use Rattle.std.specs.List.{AllByRecursion}
use Rattle.css_model.specs.declared.sheet.Item.{Item}
use Rattle.css_model.specs.Cascade.Order.{Pair}
use Rattle.css_model.specs.Documents.SelectorParts.{SelectorParts}
use Rattle.css_model.specs.Sheets.Limits.{max_stepped}
use Rattle.css_model.specs.Sheets.Sheet.{sheet_of}
use Rattle.css_model.specs.Text.Source.{text_at}
use Rattle.media_groups.specs.Opened.{opened_of}
use Rattle.opened_merge_laws.specs.Merged.{IsMergedOpened}
use Rattle.order_laws.specs.Edits.{Edit, edited}
use Rattle.order_laws.specs.Reversing.{ReversesKept, ReversesPair}
use Rattle.overlap.specs.Answers.{LackSpaces, no_space_left, pair_stepped, too_many_stepped}
use Rattle.overlap.specs.Combined.{IsSpentOn}
use Rattle.overlap.specs.declared.answer.Answer.{Answer}
use Rattle.overlap.specs.declared.answer.Answer.TheVariants.{Apart, Meet, Outside, Spent}
use Rattle.overlap.specs.PairsParts.{PairsParts}
use Rattle.overlap.specs.Remembered.{IsAnswered, IsTrueList}
use Rattle.shape_laws.specs.Document.Laws.{ShowsMeeting}
use Rattle.sheet_order.specs.Laws.{answer_seen}
use Rattle.step_laws.specs.declared.step.Step.{Step}
use Rattle.step_laws.specs.Sizes.{Saves}
use Rattle.step_laws.specs.Steps.{IsStep}

-- ---- Why two selectors are not called apart

-- Two selectors are outside of what is decided, for the reason of this number (own): both together have too many positions with a
-- large step, so many of them; or no white space is left next to a word of an attribute.
abbrev pub AreOutside : SelectorParts → SelectorParts → (reason number : ℕ) → Type 0
AreOutside x y reason number =
    ((reason ≡ too_many_stepped) × (number ≡ pair_stepped x y) × (max_stepped < number))
    ⊎ ((reason ≡ no_space_left) × (number ≡ 0) × LackSpaces x y)

-- Why an answer for two selectors keeps a step from passing one by the other (own): a legal document shows an element that both
-- match; or they are outside of what is decided; or the budget was spent on them, on a ledger of exactly so many clauses.
abbrev pub Hinders : SelectorParts → SelectorParts → (budget : ℕ) → Answer → Type 0
Hinders x y budget Apart = ⊥
Hinders x y budget (Meet e) = ShowsMeeting x y e
Hinders x y budget (Outside reason number) = AreOutside x y reason number
Hinders x y budget (Spent ledger) = IsSpentOn x y budget ledger

-- ---- Why a step is blocked

-- Why an edit of a sheet is blocked (own): it reverses a pair and a kept item; or it reverses two pairs, and the answer that is held
-- for their selectors, the moved pair's first, hinders that.
pub data WhyBlocked (pairs : PairsParts) (items : List Item) (e : Edit) : Type 0 where
  kept_item : (p : Pair) (number : ℕ) → ReversesKept items (edited e items) e.moved p number → WhyBlocked pairs items e
  two_pairs : (p q : Pair) (answer : Answer) → ReversesPair items (edited e items) e.moved p q → IsAnswered pairs.answers p.selector q.selector answer → ∥ Hinders p.selector q.selector pairs.budget answer ∥₁ → WhyBlocked pairs items e

-- each step of a sheet that would save bytes is blocked for one of these reasons (own)
abbrev pub EachIsBlocked : PairsParts → (source : List ℕ) → List Item → Type 0
EachIsBlocked pairs source items = (k : Step) (e : Edit) (saving : ℕ) → IsStep items k e → Saves source items e saving → 0 < saving → WhyBlocked pairs items e

-- In a sheet, and in the body of each of its opened blocks, each step that would save bytes is blocked (own).
pub record OnlyBlockedRemain (pairs : PairsParts) (source : List ℕ) (items : List Item) : Type 0 where
  pub outside : EachIsBlocked pairs source items
  pub inside : AllByRecursion (λ m. EachIsBlocked pairs (text_at source m.body) m.sheet.items) (opened_of items source)

-- ---- The law

-- In a merged sheet each step that would still save bytes is blocked, by answers that are true (own).
abbrev pub RemainingStepsAreBlocked : Type 0
RemainingStepsAreBlocked = (pairs : PairsParts) → ∥ IsTrueList pairs ∥₁ → (read written : List ℕ) (items : List Item) → IsMergedOpened (map answer_seen pairs.answers) read written →
    sheet_of written ≡ Ok items → OnlyBlockedRemain pairs written items
