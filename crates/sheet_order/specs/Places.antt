-- The public entries of a list of what is reversed, and their places.
use Rattle.order_laws.specs.Places as order
use Rattle.order_laws.specs.Reversed as reversing
use Rattle.sheet_order.specs.declared.places.PairPlace.{PairPlace}
use Rattle.sheet_order.specs.declared.places.Other.{Other}
use Rattle.sheet_order.specs.declared.places.Other.TheVariants as others
use Rattle.sheet_order.specs.declared.places.Reversed.{Reversed}

-- a place by its three numbers (own)
abbrev pub place_of : order.PairPlace → PairPlace
place_of p = record { item = p.item; sel = p.selector; decl = p.decl }

-- what is reversed with a pair, by its place (own)
abbrev pub other_of : reversing.Other → Other
other_of (reversing.AnotherPair q) = others.Pair (place_of q.place)
other_of (reversing.KeptAt n) = others.Kept n

-- an entry by its places (own)
abbrev pub entry_of : reversing.Reversal → Reversed
entry_of r = record { moved = place_of r.moved.place; other = other_of r.other }
