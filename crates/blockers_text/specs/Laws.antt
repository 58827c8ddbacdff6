-- What follows from what stops a step (own).
use Rattle.std.specs.Prelude.{◌≡◌, ◌≢◌, ◌↔◌, ℕ, false, true, List, length}
use Rattle.std.specs.List.{All}
use Rattle.blockers_text.specs.Later.{IsLater}
use Rattle.blockers_text.specs.Stopping.{AreSettled, entries_of, has_item, item_of, stopping}
use Rattle.css_model.specs.declared.sheet.Item.{Item}
use Rattle.css_model.specs.Documents.SelectorParts.{SelectorParts}
use Rattle.order_laws.specs.Edits.{Edit, edited}
use Rattle.order_laws.specs.Reversed.{Other, AnotherPair, KeptAt, Reversal, reversed}
use Rattle.sheet_order.specs.Places.{entry_of}
use Rattle.step_laws.specs.declared.step.Step.{Step}
use Rattle.step_laws.specs.Free.{Answered, AreApart}
use Rattle.step_laws.specs.Steps.{IsStep}

-- what is reversed with a selector is a pair that is answered to be apart from it
abbrev pub IsOtherApart : List Answered → SelectorParts → Other → Type 0
IsOtherApart answers x (AnotherPair q) = AreApart answers x q.pair.selector
IsOtherApart answers x (KeptAt n) = ⊥

abbrev pub IsApart : List Answered → Reversal → Type 0
IsApart answers r = IsOtherApart answers r.moved.pair.selector r.other

-- the item that is reversed with a pair
abbrev pub item_reversed : Reversal → ℕ
item_reversed r = item_of (entry_of r)

-- A step of a sheet of which it is answered what stops it, by answers that do not contradict one another.
pub record IsTold (answers : List Answered) (items : List Item) (k : Step) (e : Edit) : Type 0 where
  pub step : IsStep items k e
  pub once : IsLater answers answers
  pub settled : AreSettled answers items (entries_of items k)

-- An item is not among those that stop a step exactly where all of it that the step reverses is answered to be apart.
abbrev pub OthersAreApart : Type 0
OthersAreApart = (answers : List Answered) (items : List Item) (k : Step) (e : Edit) → IsTold answers items k e → (n : ℕ) →
    (has_item (stopping answers items (entries_of items k)) n ≡ false) ↔ All (λ r. item_reversed r ≡ n → IsApart answers r) (reversed items (edited e items) e.moved)

-- One item alone stops a step exactly where it stops it, and the step would be free if nothing of this item met a moved pair: all
-- else that it reverses is answered to be apart.
abbrev pub AloneWouldBeFree : Type 0
AloneWouldBeFree = (answers : List Answered) (items : List Item) (k : Step) (e : Edit) → IsTold answers items k e → (n : ℕ) → has_item (stopping answers items (entries_of items k)) n ≡ true →
    (length (stopping answers items (entries_of items k)) ≡ 1) ↔ All (λ r. item_reversed r ≢ n → IsApart answers r) (reversed items (edited e items) e.moved)
