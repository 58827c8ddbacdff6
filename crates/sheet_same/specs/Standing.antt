-- Where the members of a sheet stand in it and in another one, and which of them weigh and come in another order there.
use Rattle.std.specs.Prelude.{ℕ, zero, suc, ◌==◌, nat_lt, Bool, false, not, ◌&&◌, ◌||◌, if◌then◌else◌, List, [], ◌∷◌, ◌++◌, map}
use Rattle.std.specs.Bool.{beq}
use Rattle.std.specs.List.{filter}
use Rattle.css_model.specs.declared.sheet.Item.{Item}
use Rattle.css_model.specs.Cascade.Order.{Pair}
use Rattle.css_model.specs.Sheets.KeptItems.{is_kept, kept_before}
use Rattle.order_laws.specs.Comparing.{weigh, weighs_kept}
use Rattle.order_laws.specs.Members.{same_pair}
use Rattle.order_laws.specs.Places.{PairPlace, PlacedPair, last_pairs}
use Rattle.sheet_same.specs.declared.standing.Spot.{Spot}
use Rattle.sheet_same.specs.Members.{Member, Paired, KeptAt}
use Rattle.sheet_same.specs.Turned.{Couple, couple}

-- ---- Places

-- the place of a pair by which the order of appearance goes
abbrev pub spot_of : PairPlace → Spot
spot_of place = record { item = place.item; decl = place.decl }

-- that of the first of these pairs that is this one, wherever it stands
abbrev pub spot_in : List PlacedPair → Pair → Spot
spot_in [] p = record { item = 0; decl = 0 }
spot_in (x ∷ xs) p = if same_pair x.pair p then spot_of x.place else spot_in xs p

-- the number of the item that is the kept one of this number, the first item of which has that number
abbrev pub kept_at : (first number : ℕ) → List Item → ℕ
kept_at first number [] = first
kept_at first zero (x ∷ xs) = if is_kept x then first else kept_at (suc first) zero xs
kept_at first (suc number) (x ∷ xs) = if is_kept x then kept_at (suc first) number xs else kept_at (suc first) (suc number) xs

-- a member of a sheet, with its places in it and in another one
pub record Standing : Type 0 where
  pub member : Member
  pub here : Spot
  pub there : Spot

-- a member of the first of two sheets, with its places in both (own)
abbrev pub standing_of : List Item → List Item → Member → Standing
standing_of s t (Paired x) = record { member = Paired x; here = spot_of x.place; there = spot_in (last_pairs t) x.pair }
standing_of s t (KeptAt n item) = record { member = KeptAt n item; here = record { item = n; decl = 0 }; there = record { item = kept_at 0 (kept_before n s) t; decl = 0 } }

-- ---- Couples

-- whether the first place is later
abbrev pub is_later : Spot → Spot → Bool
is_later x y = nat_lt y.item x.item || x.item == y.item && nat_lt y.decl x.decl

-- whether one comes before the other in one of the sheets alone
abbrev pub spots_differ : Standing → Standing → Bool
spots_differ m x = not (beq (is_later x.here m.here) (is_later x.there m.there)) || not (beq (is_later m.here x.here) (is_later m.there x.there))

-- whether two members weigh
abbrev pub members_weigh : Member → Member → Bool
members_weigh (Paired x) (Paired y) = weigh x.pair y.pair
members_weigh (Paired x) (KeptAt n item) = weighs_kept x.pair item
members_weigh (KeptAt n item) (Paired y) = weighs_kept y.pair item
members_weigh (KeptAt n item) (KeptAt m other) = false

abbrev pub are_turned : Standing → Standing → Bool
are_turned m x = spots_differ m x && members_weigh m.member x.member

-- the couples of a member and later ones
abbrev pub couples_with : Standing → List Standing → List Couple
couples_with m xs = map (λ x. couple m.member x.member) (filter (are_turned m) xs)

-- those of members, by the earlier one and then by the later one
abbrev pub couples_of : List Standing → List Couple
couples_of [] = []
couples_of (m ∷ rest) = couples_with m rest ++ couples_of rest
