-- The couples of common members of two sheets that weigh and come last in another order (own).
use Rattle.std.specs.Prelude.{nat_lt, Bool, ◌&&◌, List, [], ◌∷◌, ◌++◌, map}
use Rattle.std.specs.List.{filter}
use Rattle.sheet_members.specs.Compared.{Common}
use Rattle.turned_members.specs.Weighing.{commons_weigh}

-- two common members, of which one comes first in the first sheet
pub record Couple : Type 0 where
  pub first : Common
  pub second : Common

abbrev pub couple : Common → Common → Couple
couple c d = record { first = c; second = d }

-- whether a common member that comes before another one in the first sheet comes after it in the second one, and they weigh
abbrev pub is_turned : Common → Common → Bool
is_turned c d = nat_lt d.there c.there && commons_weigh c d

-- the couples of a common member and those after it that are turned
abbrev pub turned_with : Common → List Common → List Couple
turned_with c others = map (couple c) (filter (is_turned c) others)

-- The couples that are turned, by the first one in the first sheet, and then by the second one.
abbrev pub turned : List Common → List Couple
turned [] = []
turned (c ∷ cs) = turned_with c cs ++ turned cs
