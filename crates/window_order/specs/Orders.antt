-- How two pairs stand in items, and what the parts at the ends of a window tell of their order (own).
use Rattle.std.specs.Prelude.{ℕ, Bool, true, false, not, ◌&&◌, ◌||◌, ◌≡◌, ◌↔◌, IsTrue, List, [], ◌++◌}
use Rattle.std.specs.Bool.{beq}
use Rattle.css_model.specs.declared.sheet.Item.{Item}
use Rattle.css_model.specs.Cascade.Order.{Pair, HasPair, IsBefore, IsBeforeKept}
use Rattle.css_model.specs.Sheets.KeptItems.{kept_before, kept_items}
use Rattle.order_laws.specs.Reversing.{Differ}
use Rattle.window_order.specs.declared.ends.PairEnds.{PairEnds}
use Rattle.window_order.specs.declared.kept.KeptEnds.{KeptEnds}
use Rattle.window_order.specs.declared.order.PairOrder.{PairOrder}
use Rattle.window_order.specs.declared.order.PairOrder.TheVariants.{Before, NotBefore, Second, Neither}

-- ---- Two pairs

abbrev pub IsOrder : List Item → Pair → Pair → PairOrder → Type 0
IsOrder items p q Before = IsBefore items p q
IsOrder items p q NotBefore = HasPair items p × (IsBefore items p q → ⊥)
IsOrder items p q Second = (HasPair items p → ⊥) × HasPair items q
IsOrder items p q Neither = (HasPair items p → ⊥) × (HasPair items q → ⊥)

-- where the second pair alone stands below, by whether the first one stands above
abbrev pub second_below : Bool → PairOrder
second_below true = Before
second_below false = Second

-- where the second pair does not stand, by whether the first one does
abbrev pub first_alone : Bool → PairOrder
first_alone true = NotBefore
first_alone false = Neither

-- in items of which some lie above the others
abbrev pub joined : PairOrder → PairOrder → PairOrder
joined above Before = Before
joined above NotBefore = NotBefore
joined Before Second = Before
joined NotBefore Second = Before
joined Second Second = Second
joined Neither Second = Second
joined above Neither = above

abbrev pub is_before : PairOrder → Bool
is_before Before = true
is_before NotBefore = false
is_before Second = false
is_before Neither = false

-- ---- With the parts at the ends

-- how two pairs stand in the parts at the ends
abbrev pub AreEnds : List Item → List Item → Pair → Pair → PairEnds → Type 0
AreEnds first last p q ends = IsOrder first p q ends.above × IsOrder last p q ends.below

-- the first pair comes last before the second, with the order of what lies between
abbrev pub comes_before : PairEnds → PairOrder → Bool
comes_before ends between = is_before (joined ends.above (joined between ends.below))

abbrev pub same_with : PairEnds → PairEnds → PairOrder → Bool
same_with old new between = beq (comes_before old between) (comes_before new between)

-- whatever stands between
abbrev pub AreAlwaysSame : PairEnds → PairEnds → Type 0
AreAlwaysSame old new = (between : PairOrder) → same_with old new between ≡ true

-- ---- A pair and a kept item

-- whether a pair stands in the parts at the ends
abbrev pub AreKeptEnds : List Item → List Item → Pair → KeptEnds → Type 0
AreKeptEnds first last p ends = (IsTrue ends.above ↔ HasPair first p) × (IsTrue ends.below ↔ HasPair last p)

-- the pair comes last before a kept item of the middle part below which it does not stand, by whether it stands above
abbrev pub comes_before_kept : KeptEnds → Bool → Bool
comes_before_kept ends above = (ends.above || above) && not ends.below

-- wherever it stands between
abbrev pub AreAlwaysSameKept : KeptEnds → KeptEnds → Type 0
AreAlwaysSameKept old new = (above : Bool) → comes_before_kept old above ≡ comes_before_kept new above

-- The pair and the kept item of this number of the middle part have another order with the new parts at the ends, of
-- any parts in which the pair stands so, the first ones without kept items.
abbrev pub HasOtherPlace : KeptEnds → KeptEnds → List Item → ℕ → Pair → Bool → Type 0
HasOtherPlace old new middle number p other = (first last first' last' : List Item) → AreKeptEnds first last p old → AreKeptEnds first' last' p new → kept_items first ≡ [] → kept_items first' ≡ [] →
    IsTrue other ↔ Differ (IsBeforeKept (first ++ (middle ++ last)) p (kept_before number middle)) (IsBeforeKept (first' ++ (middle ++ last')) p (kept_before number middle))
