-- Common members on the way through couples.
use Rattle.std.specs.Prelude.{◌≤◌, ℕ, List, [], ◌∷◌, ◌++◌, map}
use Rattle.std.specs.List.{AllByRecursion}
use Rattle.overlap.specs.PairsParts.{PairsParts}
use Rattle.sheet_members.specs.Compared.{Common}
use Rattle.sheet_order.specs.Allowing.{Stays}
use Rattle.turned_members.specs.Telling.{AreTold, Told}
use Rattle.turned_members.specs.Turned.{Couple}

-- A common member, with a number that none from it on comes before in the second sheet.
pub record Walked : Type 0 where
  pub common : Common
  pub floor : ℕ

abbrev pub commons_of : List Walked → List Common
commons_of ws = map (λ w. w.common) ws

-- none of these comes before this place in the second sheet
abbrev pub AreFrom : (floor : ℕ) → List Walked → Type 0
AreFrom floor ws = AllByRecursion (λ w. floor ≤ w.common.there) ws

abbrev pub HaveFloors : List Walked → Type 0
HaveFloors [] = Unit {0}
HaveFloors (w ∷ ws) = AreFrom w.floor (w ∷ ws) × HaveFloors ws

-- What is told is told after these couples: whatever more couples tell, they tell it behind these.
abbrev pub TellsAfter : (limit : ℕ) → (pairs : PairsParts) → (old : List Told) → List Couple → (new : List Told) → Type 0
TellsAfter limit pairs old couples new = (q : PairsParts) → Stays pairs q → (more : List Couple) (all : List Told) →
    AreTold q.answers limit new more all → AreTold q.answers limit old (couples ++ more) all
