-- What is known of a text that is read once and not kept: its length, and whether it begins with a byte
-- order mark.
use Rattle.std.specs.Prelude.{ℕ, ◌-◌, ◌^◌, ◌==◌, Bool, true, false, if◌then◌else◌, List, [], ◌∷◌, length}
use Rattle.css_print.specs.declared.tally.Front.{Front}
use Rattle.css_print.specs.declared.tally.Front.TheVariants.{Nothing, One, Two, Mark, Other}
use Rattle.css_print.specs.declared.tally.Tally.{Tally}

-- a front with one more byte behind it
abbrev pub longer : Front → ℕ → Front
longer Nothing c = if 0xEF == c then One else Other
longer One c = if 0xBB == c then Two else Other
longer Two c = if 0xBF == c then Mark else Other
longer Mark c = Mark
longer Other c = Other

abbrev pub is_mark : Front → Bool
is_mark Mark = true
is_mark _ = false

-- no more bytes can change it
abbrev pub is_settled : Front → Bool
is_settled Mark = true
is_settled Other = true
is_settled _ = false

-- a front with a text behind it
abbrev pub behind : Front → List ℕ → Front
behind front [] = front
behind front (c ∷ cs) = behind (longer front c) cs

-- a tally with a text behind it
abbrev pub tally_behind : Tally → List ℕ → Tally
tally_behind t text = record { room = t.room - length text; front = behind t.front text }

abbrev pub tally_of : List ℕ → Tally
tally_of text = tally_behind (record { room = 2 ^ 64 - 1; front = Nothing }) text
