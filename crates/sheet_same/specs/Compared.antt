-- Two sheets compared: what four tests find in them, and a fifth one in the bodies of their opened blocks.
use Rattle.std.specs.Prelude.{◌≡◌, ℕ, suc, List, [], ◌∷◌, Option, Some, None}
use Rattle.css_model.specs.declared.sheet.Item.{Item}
use Rattle.css_model.specs.Text.Source.{text_at}
use Rattle.media_groups.specs.declared.media.Media.{Media}
use Rattle.media_groups.specs.Opened.{opened_of}
use Rattle.order_laws.specs.Places.{last_pairs}
use Rattle.overlap.specs.PairsParts.{Answered}
use Rattle.sheet_order.specs.declared.places.PairPlace.{PairPlace}
use Rattle.sheet_same.specs.declared.compared.Compared.{Compared}
use Rattle.sheet_same.specs.declared.compared.Compared.TheVariants.{Same, Missing, Extra, KeptItem}
use Rattle.sheet_same.specs.declared.compared.Difference.{Difference}
use Rattle.sheet_same.specs.Judging.{IsJudged}
use Rattle.sheet_same.specs.Kept.{first_differing}
use Rattle.sheet_same.specs.Lacking.{first_lacking}
use Rattle.sheet_same.specs.Members.{members}
use Rattle.sheet_same.specs.Turned.{turned}

-- what comes first of three tests (own)
abbrev pub first_of : Option PairPlace → Option PairPlace → Option ℕ → Option Compared
first_of (Some missing) extra kept = Some (Missing missing)
first_of None (Some extra) kept = Some (Extra extra)
first_of None None (Some number) = Some (KeptItem number)
first_of None None None = None

-- what the first three tests find (own): a pair that the second sheet lacks, one that the first sheet lacks, and
-- the first place at which the lists of kept items differ, among which these blocks are opened
abbrev pub found_in_parts : List ℕ → List Media → List Item → List ℕ → List Media → List Item → Option Compared
found_in_parts source media s other media' t =
    first_of (first_lacking (last_pairs t) (members s)) (first_lacking (last_pairs s) (members t)) (first_differing source media s other media' t)

-- where these tests find nothing, the couples whose order differs tell (own)
abbrev pub FoundBehind : List Answered → List Item → List Item → Option Compared → Option Compared → Type 0
FoundBehind held s t (Some found) result = result ≡ Some found
FoundBehind held s t None result = IsJudged held s (turned s t) result

-- This is found in two sheets, among which these blocks are opened, by the four tests (own), where these answers are held.
abbrev pub IsFound : List Answered → List ℕ → List Media → List Item → List ℕ → List Media → List Item → Option Compared → Type 0
IsFound held source media s other media' t result = FoundBehind held s t (found_in_parts source media s other media' t) result

-- ---- Bodies

-- what is told where this is found, in the sheets themselves or in the bodies of this number; where nothing is, the rest tells (own)
abbrev pub Told : Option ℕ → Option Compared → (Difference → Type 0) → Difference → Type 0
Told body (Some compared) Rest d = d ≡ record { compared = compared; body = body }
Told body None Rest d = Rest d

abbrev pub nothing : Difference
nothing = record { compared = Same; body = None }

-- The bodies of opened blocks tell this, in their order, the first of which has this number (own): what four tests find in the first two
-- of them, and where nothing is found, what the others tell. Inside a body no block is opened.
abbrev pub BodiesTell : List Answered → ℕ → List ℕ → List Media → List ℕ → List Media → Difference → Type 0
BodiesTell held n source [] other media' d = d ≡ nothing
BodiesTell held n source (m ∷ media) other [] d = d ≡ nothing
BodiesTell held n source (m ∷ media) other (m' ∷ media') d =
    (found : Option Compared) × IsFound held (text_at source m.body) [] m.sheet.items (text_at other m'.body) [] m'.sheet.items found
    × Told (Some n) found (BodiesTell held (suc n) source media other media') d

-- So two sheets compare, among which these blocks are opened, where these answers are held (own).
abbrev pub AreCompared : List Answered → List ℕ → List Media → List Item → List ℕ → List Media → List Item → Difference → Type 0
AreCompared held source media s other media' t d =
    (found : Option Compared) × IsFound held source media s other media' t found × Told None found (BodiesTell held 0 source media other media') d

-- So two sheets compare, where these answers are held (own): by the five tests, of which the first that finds something tells.
abbrev pub IsDifference : List Answered → List ℕ → List Item → List ℕ → List Item → Difference → Type 0
IsDifference held source s other t d = AreCompared held source (opened_of s source) s other (opened_of t other) t d
