-- What it means that `diff` says `same`.
use Rattle.std.specs.Prelude.{◌≡◌, ◌<◌, ℕ, List, codes}
use Rattle.diff_laws.specs.Same.{AreSame}
use Rattle.diff_text.specs.DiffTexts.{AreCompared}
use Rattle.overlap.specs.PairsParts.{PairsParts}

-- Two sheets of which `same` is told are the same, where at least one couple may be told: nothing is found between them. So they
-- have the same winners, by `SameMembersWinAlike` of `diff_laws`.
abbrev pub SameTextMeansSame : Type 0
SameTextMeansSame = (source other : List ℕ) (limit : ℕ) (pairs : PairsParts) (text : List ℕ) (a : AreCompared source other limit pairs text) → 0 < limit → text ≡ codes "same\n" →
    AreSame source a.first other a.second
