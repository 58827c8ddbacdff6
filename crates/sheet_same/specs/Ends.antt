-- Behind which member no later one stands before another one in one of two sheets alone.
use Rattle.std.specs.Prelude.{Bool, ◌&&◌, if◌then◌else◌, List, [], ◌∷◌, Option, Some, None, slice_get}
use Rattle.sheet_same.specs.declared.ends.Least.{Least}
use Rattle.sheet_same.specs.declared.standing.Spot.{Spot}
use Rattle.sheet_same.specs.Standing.{Standing, is_later}

-- the earlier of two places
abbrev pub earlier_of : Spot → Spot → Spot
earlier_of x y = if is_later x y then y else x

-- the least places of a member and of those behind it, if there are some
abbrev pub with_least : Standing → Option Least → Least
with_least x None = record { here = x.here; there = x.there }
with_least x (Some l) = record { here = earlier_of x.here l.here; there = earlier_of x.there l.there }

-- for each of some members the least places from it on, behind which these follow
abbrev pub leasts_on : List Standing → List Least → List Least
leasts_on [] ls = ls
leasts_on (x ∷ xs) ls = with_least x (slice_get (leasts_on xs ls) 0) ∷ leasts_on xs ls

-- for each member the least places from it on (own)
abbrev pub leasts : List Standing → List Least
leasts xs = leasts_on xs []

-- whether both least places are later than those of a member
abbrev pub is_past : Least → Standing → Bool
is_past l m = is_later l.here m.here && is_later l.there m.there
