-- What is known of where pairs stand, by their places (own).
use Rattle.std.specs.Prelude.{Option, Some, None}
use Rattle.std.specs.List.{All}
use Rattle.css_model.specs.Cascade.Order.{Pair}
use Rattle.obstacles.specs.Blocking.{IsAt}
use Rattle.obstacles.specs.declared.obstacle.PairPlace.{PairPlace}
use Rattle.step_obstacles.specs.declared.facing.Facing.{Facing}
use Rattle.step_obstacles.specs.declared.facing.Facing.TheVariants as facing
use Rattle.step_obstacles.specs.declared.known.Entry.{Entry}
use Rattle.step_obstacles.specs.declared.known.Known.{Known}
use Rattle.window_order.specs.Places.{AreEndsOf, IsKnownPair, IsStanding}
use Rattle.window_order.specs.declared.ends_known.Ends.{Ends}
use Rattle.window_order.specs.declared.ends_known.KnownPair.{KnownPair}
use Rattle.window_order.specs.declared.place.Standing.{Standing}
use Rattle.window_order.specs.declared.window.Window.{Window}

-- what is known of a pair is so, by what is known of the ends
abbrev pub IsSo : Window → Pair → Option Ends → Standing → Type 0
IsSo w p None s = IsStanding w p s
IsSo w p (Some e) s = AreEndsOf w p e × IsStanding w p s

-- it is so of the pair at a place
abbrev pub IsNoted : Window → PairPlace → KnownPair → Type 0
IsNoted w place k = (p : Pair) → IsAt w.items.now place p → IsSo w p k.ends k.standing

abbrev pub IsEntry : Window → Entry → Type 0
IsEntry w e = IsNoted w e.place e.standing

abbrev pub IsKnown : Window → Known → Type 0
IsKnown w known = All (IsEntry w) known.entries.items

-- what a pair faces stands so, if it is a pair
abbrev pub FacedStands : Window → Facing → KnownPair → Type 0
FacedStands w (facing.Pair q place k) s = IsKnownPair w q s
FacedStands w (facing.Kept i) s = Unit {0}
