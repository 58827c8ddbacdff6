-- What is reversed in the part of a sheet that a step changes (own).
use Rattle.std.specs.Prelude.{ℕ, ◌+◌, ◌-◌, List, ◌++◌, slice_range, drop}
use Rattle.css_model.specs.declared.sheet.Item.{Item}
use Rattle.css_model.specs.Cascade.Order.{Pair, HasPair, IsBefore, IsBeforeKept}
use Rattle.css_model.specs.Sheets.KeptItems.{kept_before}
use Rattle.order_laws.specs.Reversing.{Differ}
use Rattle.window_order.specs.declared.window.Window.{Window}
use Rattle.window_order.specs.Left.{items_of}

-- ---- The parts

abbrev pub first_of : Window → List Item
first_of w = slice_range w.items.now w.start w.middle

abbrev pub middle_of : Window → List Item
middle_of w = slice_range w.items.now w.middle w.last

abbrev pub last_of : Window → List Item
last_of w = slice_range w.items.now w.last (w.last + 1)

abbrev pub behind_of : Window → List Item
behind_of w = drop (w.last + 1) w.items.now

-- before the step, and after it
abbrev pub old_of : Window → List Item
old_of w = first_of w ++ (middle_of w ++ last_of w)

abbrev pub new_of : Window → List Item
new_of w = items_of w.first_left ++ (middle_of w ++ items_of w.last_left)

-- ---- What is reversed

-- two pairs have another order afterwards, and neither stands behind
pub record IsReversed (w : Window) (p q : Pair) : Type 0 where
  pub order : Differ (IsBefore (old_of w) p q) (IsBefore (new_of w) p q)
  pub first : HasPair (behind_of w) p → ⊥
  pub second : HasPair (behind_of w) q → ⊥

-- a pair and a kept item, by its number among those of the middle part, have another order afterwards, and the
-- pair does not stand behind
pub record IsKeptReversed (w : Window) (p : Pair) (n : ℕ) : Type 0 where
  pub order : Differ (IsBeforeKept (old_of w) p n) (IsBeforeKept (new_of w) p n)
  pub first : HasPair (behind_of w) p → ⊥

-- the number of an item of the middle part among the kept ones of that part
abbrev pub kept_number : Window → ℕ → ℕ
kept_number w i = kept_before (i - w.middle) (middle_of w)
