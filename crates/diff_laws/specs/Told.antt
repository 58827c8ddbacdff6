-- What it means for the couples that are turned that none is told, or that fewer are told than may be.
use Rattle.std.specs.Prelude.{◌≡◌, ◌<◌, ◌⊎◌, ℕ, true, List, [], length, None}
use Rattle.std.specs.List.{Contains}
use Rattle.overlap.specs.PairsParts.{Answered}
use Rattle.turned_members.specs.Telling.{AreTold, IsJudged, Told, covers}
use Rattle.turned_members.specs.Turned.{Couple}

-- Where no couple is told, and at least one may be, nothing is found in any: each is of two pairs that are answered to be apart (own).
abbrev pub ToldNothingIsApart : Type 0
ToldNothingIsApart = (held : List Answered) (limit : ℕ) (couples : List Couple) → 0 < limit → AreTold held limit [] couples [] →
    (c : Couple) → Contains couples c → IsJudged held c None

-- Where fewer couples are told than may be, each one in which something is found is told, or one of the same two items or with the
-- same kept item is (own).
abbrev pub SomeOfEachItemIsTold : Type 0
SomeOfEachItemIsTold = (held : List Answered) (limit : ℕ) (couples : List Couple) (told : List Told) → length told < limit → AreTold held limit [] couples told →
    (c : Couple) → Contains couples c → IsJudged held c None ⊎ ((t : Told) × Contains told t × (covers t.couple c ≡ true))
