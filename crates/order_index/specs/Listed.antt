-- What is known of the pairs and of the kept items that are looked at (own).
use Rattle.std.specs.Prelude.{◌≡◌, ℕ, true, List, Some, slice_get}
use Rattle.std.specs.List.{filter}
use Rattle.css_model.specs.Cascade.Order.{HasPair, Pair}
use Rattle.css_model.specs.declared.sheet.Item.{Item}
use Rattle.css_model.specs.Sheets.KeptItems.{is_kept}
use Rattle.order_index.specs.Afterwards.{after, edit_at, moves}
use Rattle.order_laws.specs.Places.{PlacedPair, last_pairs}
use Rattle.order_laws.specs.Reversed.{is_reversed}
use Rattle.selector_laws.specs.Limits.{KeepsLimits}
use Rattle.step_laws.specs.declared.step.Step.{Step}
use Rattle.step_laws.specs.Steps.{IsStep}
use Rattle.step_obstacles.specs.StepWindow.{IsWindowFor}
use Rattle.window_order.specs.declared.window.Window.{Window}

-- a step of the items of a window, and the window is the step's
pub record IsChange (w : Window) (k : Step) : Type 0 where
  pub step : IsStep w.items.now k (edit_at w.items.now k)
  pub window : IsWindowFor w.items.now k (edit_at w.items.now k) w

-- a pair stands in the sheet, and its selector keeps the limits
pub record IsListed (items : List Item) (q : PlacedPair) : Type 0 where
  pub limited : KeepsLimits q.pair.selector
  pub stands : HasPair items q.pair

-- a step moves a pair, and its selector keeps the limits
pub record IsMoving (items : List Item) (k : Step) (p : PlacedPair) : Type 0 where
  pub limited : KeepsLimits p.pair.selector
  pub moved : moves items k p.pair ≡ true

-- a kept item stands in the sheet at this number
pub record IsKeptAt (items : List Item) (k : ℕ × Item) : Type 0 where
  pub at : slice_get items k.0 ≡ Some k.1
  pub kept : is_kept k.1 ≡ true

-- Pairs of the sheet, among which all are that the step reverses with one that it moves.
abbrev pub HasAllReversed : List Item → Step → List PlacedPair → Type 0
HasAllReversed items k pairs =
    (p : Pair) → moves items k p ≡ true → filter (λ q. is_reversed items (after items k) p q.pair) pairs ≡ filter (λ q. is_reversed items (after items k) p q.pair) (last_pairs items)
