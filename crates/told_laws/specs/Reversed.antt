-- What it means that a couple of members comes in another order in two sheets: which declaration wins in each of them.
use Rattle.std.specs.Prelude.{◌≡◌, ◌≢◌, ◌||◌, ℕ, Bool, false, if◌then◌else◌, List, [], ◌∷◌, ◌++◌, map, Option, Some, None, Ok}
use Rattle.std.specs.List.{Contains, flat_map}
use Rattle.std.specs.Option.{option_map}
use Rattle.css_model.specs.declared.example.Example.{Example}
use Rattle.css_model.specs.declared.sheet.Item.{Item}
use Rattle.css_model.specs.Cascade.Winner.{Understood, Winner}
use Rattle.css_model.specs.Documents.RunDocuments.{expand, target_of}
use Rattle.css_model.specs.Documents.Specificity.{specificity_of}
use Rattle.css_model.specs.Lists.{same_text}
use Rattle.css_model.specs.Sheets.KeptItems.{kept_items}
use Rattle.css_model.specs.Sheets.Sheet.{sheet_of}
use Rattle.css_model.specs.Sheets.Spelling.{kept_text}
use Rattle.diff_laws.specs.Scenes.{blocks_of, normal_winner_in}
use Rattle.diff_text.specs.Winning.{agree, name_of, winning}
use Rattle.media_groups.specs.declared.media.Media.{Media}
use Rattle.normal_text.specs.Normal.{normal_head}
use Rattle.opened_laws.specs.Media.Scenes.{KeptScene}
use Rattle.sheet_members.specs.Labels.{same_head}
use Rattle.sheet_members.specs.Occurrences.{Kept, Occurrence, Paired, Part, occurrences}
use Rattle.turned_members.specs.Turned.{Couple}

-- ---- The scene

-- whether a normal head is one of the heads of a couple
abbrev pub is_head_of : Couple → List ℕ → Bool
is_head_of c head = same_head (Some head) c.first.mine.occurrence.layer.head || same_head (Some head) c.second.mine.occurrence.layer.head

-- what a kept item applies where the blocks hold whose normal heads pass a test: an opened block what its rules do, if it holds, and
-- any other one nothing
abbrev pub scene_of : (source : List ℕ) → (holds : List ℕ → Bool) → Option Media → KeptScene
scene_of source holds None = record { plain = []; holds = false; inside = [] }
scene_of source holds (Some m) = record { plain = []; holds = holds (normal_head (kept_text source m.head)); inside = map (λ item. []) (kept_items m.sheet.items) }

-- the scene of a sheet in which exactly the blocks of a couple hold, and kept items apply nothing
abbrev pub scene_under : Couple → (source : List ℕ) (items : List Item) → List KeptScene
scene_under c source items = map (scene_of source (is_head_of c)) (blocks_of source items)

-- ---- What is understood

-- the normal value that a part gives one of two properties, if it does
abbrev pub value_in : (name other : List ℕ) → Part → (text : List ℕ) → List Understood
value_in name other (Paired s d) text = if same_text d.decl.name name || same_text d.decl.name other then record { name = d.decl.name; value = text } ∷ [] else []
value_in name other (Kept item) text = []

-- all normal values that these give the two properties of a couple
abbrev pub values_in : Couple → List Occurrence → List Understood
values_in c os = flat_map (λ o. value_in (name_of c.first.mine.occurrence) (name_of c.second.mine.occurrence) o.part o.text) os

-- ---- The winner

-- what a pair applies, with its normal value; a kept item is no pair
abbrev pub part_outcome : Part → (text : List ℕ) → Winner
part_outcome (Paired s d) text = record { name = d.decl.name; value = text; important = d.decl.important; specificity = specificity_of s.selector }
part_outcome (Kept item) text = record { name = []; value = text; important = false; specificity = record { a = 0; b = 0; c = 0 } }

abbrev pub outcome_of : Occurrence → Winner
outcome_of o = part_outcome o.part o.text

-- The winner of a sheet at an example over normal values, in the scene in which exactly the blocks of a couple hold and kept items
-- apply nothing, of all normal values that these give its two properties (CSS Cascading 3, section 6).
abbrev pub winner_under : Example → Couple → (source : List ℕ) (items : List Item) → List Occurrence → Option Winner
winner_under x c source items os = normal_winner_in (expand x) (target_of x) source items (scene_under c source items) (values_in c os)

-- What is told to win at an example wins there in the whole sheet, of all values that some occurrences give, those of the sheet among
-- them.
abbrev pub ToldWinnerWins : Type 0
ToldWinnerWins = (source : List ℕ) (s : List Item) → sheet_of source ≡ Ok s → (x : Example) (c : Couple) (os : List Occurrence) → ((o : Occurrence) → Contains (occurrences source s) o → Contains os o) →
    winner_under x c source s os ≡ option_map outcome_of (winning x c (occurrences source s))

-- So where the winners of two sheets that are told do not agree, the whole sheets have different winners, of all values that either
-- sheet gives the two properties.
abbrev pub OtherWinnersDiffer : Type 0
OtherWinnersDiffer = (source : List ℕ) (s : List Item) (other : List ℕ) (t : List Item) → sheet_of source ≡ Ok s → sheet_of other ≡ Ok t → (x : Example) (c : Couple) →
    agree (winning x c (occurrences source s)) (winning x c (occurrences other t)) ≡ false →
    winner_under x c source s (occurrences source s ++ occurrences other t) ≢ winner_under x c other t (occurrences source s ++ occurrences other t)
