-- Which items of a window are looked at (own).
use Rattle.std.specs.Prelude.{ℕ, ◌≤◌, ◌<◌, ◌+◌, List}
use Rattle.css_model.specs.declared.sheet.Item.{Item}
use Rattle.sheet_order.specs.declared.places.Moved.{Moved}
use Rattle.step_obstacles.specs.Blocked.{Crosses}
use Rattle.step_obstacles.specs.declared.facing.Source.{Source}
use Rattle.step_obstacles.specs.declared.window_search.Span.{Span}
use Rattle.step_obstacles.specs.StepWindow.{AreOf}
use Rattle.step_obstacles.specs.Turns.{OfNumber, OfWindow}
use Rattle.plan_laws.specs.Barrier.Hindering.{Hindrance}
use Rattle.window_order.specs.declared.window.Window.{Window}

-- a span lies in a window
pub record IsWithin (w : Window) (s : Span) : Type 0 where
  pub above : w.start ≤ s.first
  pub order : s.first ≤ s.end
  pub below : s.end ≤ w.last + 1

-- the pairs of some rules with the items of a span
abbrev pub OfSpan : Window → Span → List Source → Hindrance → Type 0
OfSpan w s sources by = (n : ℕ) × (s.first ≤ n) × (n < s.end) × OfNumber w.items.now sources n by

-- A span is enough for some rules: whatever is reversed in the window and weighs is met there.
abbrev pub IsEnough : Window → Span → List Source → Type 0
IsEnough w s sources = (by : Hindrance) → OfWindow w sources by → Crosses w by → OfSpan w s sources by

-- it is enough for all rules that are moved so
abbrev pub IsEnoughFor : List Item → Moved → Window → Span → Type 0
IsEnoughFor items m w s = (sources : List Source) → AreOf items m sources → IsEnough w s sources
