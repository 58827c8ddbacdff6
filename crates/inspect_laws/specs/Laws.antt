-- Laws on the order of entries and on the words for them.
use Rattle.std.specs.Prelude.{◌≡◌, ◌≢◌, ℕ, Bool, true, false, ◌&&◌, ◌||◌, List, [], ◌∷◌, ◌++◌, map, find, Option, Some, None, Ok, codes}
use Rattle.std.specs.List.{Contains, IsDistinct, filter, flat_map}
use Rattle.std.specs.Option.{option_map}
use Rattle.css_model.specs.declared.sheet.Item.{Item}
use Rattle.css_model.specs.Cascade.Family.{family_of}
use Rattle.css_model.specs.Cascade.Winner.{Understood, Winner, winner}
use Rattle.css_model.specs.Documents.Document.{Document, Target}
use Rattle.css_model.specs.Documents.Matching.{matches}
use Rattle.css_model.specs.Documents.SelectorParts.{SelectorParts}
use Rattle.css_model.specs.Lists.{same_text}
use Rattle.css_model.specs.Sheets.Sheet.{sheet_of}
use Rattle.css_model.specs.Sheets.Spelling.{kept_text}
use Rattle.cascade_eval.specs.Winners.{no_meanings, values_of}
use Rattle.media_groups.specs.declared.media.Media.{Media}
use Rattle.media_groups.specs.Levels.{levels_of}
use Rattle.media_groups.specs.Opened.{opened_of}
use Rattle.opened_laws.specs.Media.Scenes.{KeptScene, kept_blocks, meanings_of}
use Rattle.inspect_laws.specs.Entries.{Entry, entries_by}
use Rattle.inspect_laws.specs.Groups.{is_all, is_in_group, name_of}
use Rattle.inspect_laws.specs.Order.{AreOrdered, same_rank}
use Rattle.inspect_laws.specs.Words.{Lost, When, Wins, word_of}

-- ---- Scenes

-- what a kept item applies where the heads that pass a test hold: an opened block what its rules do, if its head holds, and any
-- other kept item nothing
abbrev pub scene_of : (source : List ℕ) → (holds : List ℕ → Bool) → Option Media → KeptScene
scene_of source holds None = record { plain = []; holds = false; inside = [] }
scene_of source holds (Some m) = record { plain = []; holds = holds (kept_text source m.head); inside = no_meanings m.sheet.items }

-- the kept items of a sheet, each with the opened block that it is, if it is one
abbrev pub blocks_of : (source : List ℕ) (items : List Item) → List (Option Media)
blocks_of source items = kept_blocks (opened_of items source) items

-- the scene of a sheet in which the heads that pass a test hold; blocks with one head hold together
abbrev pub scene_where : (holds : List ℕ → Bool) → (source : List ℕ) (items : List Item) → List KeptScene
scene_where holds source items = map (scene_of source holds) (blocks_of source items)

-- all values that the rules of a sheet and of its opened bodies give a property
abbrev pub values_in_all : (source : List ℕ) (items : List Item) → (name : List ℕ) → List Understood
values_in_all source items name = flat_map (λ l. values_of name l.items) (levels_of source items)

-- The winner among all values of a property and of `all`, in the scene in which the heads that pass a test hold (CSS Cascading 3,
-- section 6).
abbrev pub winner_where : (holds : List ℕ → Bool) → Document → Target → (source : List ℕ) (items : List Item) → (name : List ℕ) → Option Winner
winner_where holds doc target source items name =
    winner doc target (meanings_of doc target (blocks_of source items) (scene_where holds source items)) items
    (values_in_all source items name ++ values_in_all source items (codes "all"))

-- ---- Entries in scenes

-- what an entry applies, without its place
abbrev pub outcome_of : Entry → Winner
outcome_of e = record { name = e.decl.name; value = e.decl.value; important = e.decl.important; specificity = e.specificity }

-- whether an entry applies where the heads that pass a test hold
abbrev pub stands : (holds : List ℕ → Bool) → (head : Option (List ℕ)) → Bool
stands holds None = true
stands holds (Some head) = holds head

-- whether an entry competes for a property where these heads hold: it has this property or `all`, and applies
abbrev pub competes : (holds : List ℕ → Bool) → (name : List ℕ) → Entry → Bool
competes holds name e = (same_text e.decl.name name || is_all e) && stands holds e.head

-- no head holds
abbrev pub none_holds : List ℕ → Bool
none_holds head = false

-- ---- Laws

-- No two entries have one rank.
abbrev pub RanksDiffer : Type 0
RanksDiffer = (matched : SelectorParts → Bool) (source : List ℕ) (items : List Item) → IsDistinct same_rank (entries_by matched source items)

-- The winner of a property is the first one of its group that competes for it, in each scene in which blocks with one head hold
-- together (CSS Cascading 3, section 6; CSS Conditional Rules 3, section 2).
abbrev pub FirstWins : Type 0
FirstWins = (doc : Document) (target : Target) (source : List ℕ) (items : List Item) (sorted : List Entry) (name : List ℕ) (holds : List ℕ → Bool) →
    sheet_of source ≡ Ok items → AreOrdered (entries_by (matches doc target) source items) sorted →
    winner_where holds doc target source items name ≡ option_map outcome_of (find (competes holds name) sorted)

-- An entry for which `wins` is told is the winner of its property where no head holds.
abbrev pub WinsWhereNoneHolds : Type 0
WinsWhereNoneHolds = (doc : Document) (target : Target) (source : List ℕ) (items : List Item) (sorted : List Entry) (e : Entry) →
    sheet_of source ≡ Ok items → AreOrdered (entries_by (matches doc target) source items) sorted → Contains sorted e →
    word_of (entries_by (matches doc target) source items) e ≡ Wins →
    winner_where none_holds doc target source items e.decl.name ≡ Some (outcome_of e)

-- One for which `when` is told is the winner of its property where the head alone holds that it stands under.
abbrev pub WinsUnderItsHead : Type 0
WinsUnderItsHead = (doc : Document) (target : Target) (source : List ℕ) (items : List Item) (sorted : List Entry) (e : Entry) (head : List ℕ) →
    sheet_of source ≡ Ok items → AreOrdered (entries_by (matches doc target) source items) sorted → Contains sorted e →
    word_of (entries_by (matches doc target) source items) e ≡ When → e.head ≡ Some head →
    winner_where (same_text head) doc target source items e.decl.name ≡ Some (outcome_of e)

-- In no scene the first one that competes for a property is one for which `lost` is told.
abbrev pub LostNeverWins : Type 0
LostNeverWins = (all sorted : List Entry) (e : Entry) (name : List ℕ) (holds : List ℕ → Bool) → AreOrdered all sorted →
    find (competes holds name) sorted ≡ Some e → word_of all e ≢ Lost

-- All that competes for a property is in the group of its family.
abbrev pub RivalsAreInOneGroup : Type 0
RivalsAreInOneGroup = (sorted : List Entry) (name : List ℕ) (holds : List ℕ → Bool) →
    find (competes holds name) (filter (is_in_group (name_of (family_of name))) sorted) ≡ find (competes holds name) sorted
