-- Where pairs stand last in a window (own).
use Rattle.std.specs.Prelude.{◌≡◌, ℕ, ◌+◌, ◌<◌, List, [], ◌∷◌, Option, Some, None, drop, slice_get}
use Rattle.css_model.specs.declared.sheet.Item.{Item}
use Rattle.css_model.specs.Cascade.Order.{Pair, HasPair}
use Rattle.window_order.specs.Left.{items_of}
use Rattle.window_order.specs.Orders.{AreKeptEnds}
use Rattle.window_order.specs.Reversed.{behind_of, first_of, last_of, middle_of}
use Rattle.window_order.specs.declared.ends_known.Ends.{Ends}
use Rattle.window_order.specs.declared.ends_known.KnownPair.{KnownPair}
use Rattle.window_order.specs.declared.place.Standing.{Standing}
use Rattle.window_order.specs.declared.place.Standing.TheVariants.{Unasked, Behind, Last}
use Rattle.window_order.specs.declared.window.Window.{Window}

-- the item of this number is the last in which a pair stands
pub record IsLastPlace (items : List Item) (n : ℕ) (p : Pair) : Type 0 where
  pub item : Item
  pub item_at : slice_get items n ≡ Some item
  pub stands : HasPair (item ∷ []) p
  pub none : HasPair (drop (n + 1) items) p → ⊥

-- the last one of some items in which a pair stands, if there is one
abbrev pub IsPlace : List Item → Pair → Option ℕ → Type 0
IsPlace items p None = HasPair items p → ⊥
IsPlace items p (Some n) = IsLastPlace items n p

-- where a pair stands that does not stand behind a window; nothing of one that does
abbrev pub IsSeen : Window → Pair → Option (Option ℕ) → Type 0
IsSeen w p None = HasPair (behind_of w) p
IsSeen w p (Some place) = (HasPair (behind_of w) p → ⊥) × IsPlace (middle_of w) p place

-- what is known of a pair is so
abbrev pub IsStanding : Window → Pair → Standing → Type 0
IsStanding w p Unasked = Unit {0}
IsStanding w p Behind = HasPair (behind_of w) p
IsStanding w p (Last place) = (HasPair (behind_of w) p → ⊥) × IsPlace (middle_of w) p place

-- where a pair stands in the parts at the ends, before the step and after it
abbrev pub AreEndsOf : Window → Pair → Ends → Type 0
AreEndsOf w p e = AreKeptEnds (first_of w) (last_of w) p e.old × AreKeptEnds (items_of w.first_left) (items_of w.last_left) p e.new

-- what is known of that is so
abbrev pub AreEndsIfKnown : Window → Pair → Option Ends → Type 0
AreEndsIfKnown w p None = Unit {0}
AreEndsIfKnown w p (Some e) = AreEndsOf w p e

-- all that is known of a pair is so
abbrev pub IsKnownPair : Window → Pair → KnownPair → Type 0
IsKnownPair w p k = AreEndsIfKnown w p k.ends × IsStanding w p k.standing

-- nothing is known
abbrev pub unknown : KnownPair
unknown = record { ends = None; standing = Unasked }

-- it is below the item of this number
abbrev pub IsBelow : Option ℕ → ℕ → Type 0
IsBelow None n = ⊥
IsBelow (Some k) n = n < k

abbrev pub IsSomewhere : Option ℕ → Type 0
IsSomewhere None = ⊥
IsSomewhere (Some n) = Unit {0}
