-- What is answered for what may block a step (own).
use Rattle.std.specs.Prelude.{◌≡◌, ℕ, ◌≤◌, Bool, true, false, List, Option, Some, None, slice_get}
use Rattle.css_model.specs.Cascade.Order.{Weigh, WeighsKept}
use Rattle.css_model.specs.declared.sheet.Item.{Item}
use Rattle.css_model.specs.Documents.SelectorParts.{SelectorParts}
use Rattle.css_model.specs.Sheets.KeptItems.{is_kept, kept_before}
use Rattle.obstacles.specs.Blocking.{Names}
use Rattle.obstacles.specs.declared.obstacle.Obstacle.{Obstacle}
use Rattle.overlap.specs.declared.answer.Answer.{Answer}
use Rattle.overlap.specs.PairsParts.{Answered}
use Rattle.overlap.specs.Remembered.{IsAnswered}
use Rattle.sheet_order.specs.Laws.{is_apart}
use Rattle.plan_laws.specs.Barrier.Hindering.{Hindrance, OfPair, OfKept}
use Rattle.window_order.specs.declared.window.Window.{Window}
use Rattle.window_order.specs.Reversed.{IsReversed, IsKeptReversed, kept_number}

-- two selectors are answered to be apart, or something else is answered
abbrev pub AreAnswered : List Answered → SelectorParts → SelectorParts → Bool → Type 0
AreAnswered answers x y apart = (answer : Answer) × IsAnswered answers x y answer × (is_apart answer ≡ apart)

-- what may block does: the selectors of its pairs are answered otherwise than to be apart, or it is a kept item
abbrev pub Blocks : List Answered → Hindrance → Type 0
Blocks answers (OfPair p q) = AreAnswered answers p.selector q.selector false
Blocks answers (OfKept p number) = Unit {0}

-- or it does not: the selectors are answered to be apart
abbrev pub LetsPass : List Answered → Hindrance → Type 0
LetsPass answers (OfPair p q) = AreAnswered answers p.selector q.selector true
LetsPass answers (OfKept p number) = ⊥

-- a kept item of a window, by its number in the sheet
pub record IsKeptIn (w : Window) (i : ℕ) : Type 0 where
  pub item : Item
  pub item_at : slice_get w.items.now i ≡ Some item
  pub kept : is_kept item ≡ true
  pub above : w.start ≤ i
  pub below : i ≤ w.last

-- what may block is reversed in a window, and weighs
abbrev pub Crosses : Window → Hindrance → Type 0
Crosses w (OfPair p q) = Weigh p q × IsReversed w p q
Crosses w (OfKept p number) = (i : ℕ) × (k : IsKeptIn w i) × (number ≡ kept_before i w.items.now) × WeighsKept p k.item × IsKeptReversed w p (kept_number w i)

-- what may block is told to do so, or not to do so if it is reversed
abbrev pub IsTold : List Answered → Window → Hindrance → Bool → Type 0
IsTold answers w by true = Crosses w by × Blocks answers by
IsTold answers w by false = Crosses w by → LetsPass answers by

-- something of these blocks, which an obstacle names
pub record IsFound (answers : List Answered) (w : Window) (Of : Hindrance → Type 0) (o : Obstacle) : Type 0 where
  pub by : Hindrance
  pub of : Of by
  pub names : Names w.items.now o by
  pub told : IsTold answers w by true

-- nothing of these does
abbrev pub AllPass : List Answered → Window → (Hindrance → Type 0) → Type 0
AllPass answers w Of = (by : Hindrance) → Of by → IsTold answers w by false

-- which of both is the case
abbrev pub IsToldOf : List Answered → Window → (Hindrance → Type 0) → Option Obstacle → Type 0
IsToldOf answers w Of None = AllPass answers w Of
IsToldOf answers w Of (Some o) = IsFound answers w Of o
