-- The first pair of a sheet that another one lacks.
use Rattle.std.specs.Prelude.{if◌then◌else◌, List, [], ◌∷◌, Option, Some, None}
use Rattle.order_laws.specs.Places.{PlacedPair, has_pair}
use Rattle.sheet_order.specs.declared.places.PairPlace.{PairPlace}
use Rattle.sheet_order.specs.Places.{place_of}
use Rattle.sheet_same.specs.Members.{Member, Paired, KeptAt}

-- the place of a member, if it is a pair that is not among these (own)
abbrev pub lacking : List PlacedPair → Member → Option PairPlace
lacking pairs (Paired x) = if has_pair pairs x.pair then None else Some (place_of x.place)
lacking pairs (KeptAt n item) = None

abbrev pub first_found : Option PairPlace → Option PairPlace → Option PairPlace
first_found (Some place) others = Some place
first_found None others = others

-- The place of the first of these members that is a pair and is not among some pairs (own).
abbrev pub first_lacking : List PlacedPair → List Member → Option PairPlace
first_lacking pairs [] = None
first_lacking pairs (m ∷ rest) = first_found (lacking pairs m) (first_lacking pairs rest)
