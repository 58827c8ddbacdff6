-- What the kept items of a sheet apply, where its blocks of media are opened.
use Rattle.std.specs.Prelude.{◌==◌, ◌≡◌, Bool, if◌then◌else◌, List, [], ◌∷◌, drop, Option, Some, None, IfSome}
use Rattle.std.specs.List.{All, Contains}
use Rattle.css_model.specs.declared.sheet.Item.{Item}
use Rattle.css_model.specs.declared.sheet.Item.TheVariants.{Rule, KeptRule, KeptBlock}
use Rattle.css_model.specs.declared.sheet.Piece.{Piece}
use Rattle.css_model.specs.Cascade.Winner.{AreMeanings, Declared, Understood, winner}
use Rattle.css_model.specs.Documents.Document.{Document, Target}
use Rattle.media_groups.specs.declared.media.Media.{Media}
use Rattle.media_groups.specs.Printed.{blocks_at}
use Rattle.cascade_laws.specs.Meaning.Meanings.{meaning_of_sheet}

-- The first of the opened blocks, where it begins as this piece does.
abbrev pub block_at : List Media → Piece → Option Media
block_at [] piece = None
block_at (m ∷ media) piece = if piece.start == m.head.start then Some m else None

-- The kept items among items, in their order: each with the opened block that it is, if it is one (own).
abbrev pub kept_blocks : List Media → List Item → List (Option Media)
kept_blocks media [] = []
kept_blocks media (Rule r ∷ items) = kept_blocks media items
kept_blocks media (KeptRule k ∷ items) = None ∷ kept_blocks media items
kept_blocks media (KeptBlock piece ∷ items) = block_at media piece ∷ kept_blocks (drop (blocks_at media (KeptBlock piece)) media) items

-- What a browser makes of a kept item, which nobody here can tell (own): of an opened block whether its condition holds (CSS
-- Conditional Rules 3, section 2), and what the kept items of its body apply to a target; of any other one what it applies.
pub record KeptScene : Type 0 where
  pub plain : List Declared
  pub holds : Bool
  pub inside : List (List Declared)

-- What a kept item applies in a scene (own): an opened block whose condition holds applies what its sheet does, by place and within
-- one place by the order of the selectors; one whose condition does not hold applies nothing.
abbrev pub meaning_in : Document → Target → Option Media → KeptScene → List Declared
meaning_in doc target None x = x.plain
meaning_in doc target (Some m) x = if x.holds then meaning_of_sheet doc target x.inside m.sheet.items else []

-- What the kept items of a sheet apply in a scene, which has one entry for each of them, in their order (own).
abbrev pub meanings_of : Document → Target → List (Option Media) → List KeptScene → List (List Declared)
meanings_of doc target [] scene = []
meanings_of doc target (o ∷ blocks) [] = []
meanings_of doc target (o ∷ blocks) (x ∷ scene) = meaning_in doc target o x ∷ meanings_of doc target blocks scene

-- A scene of items among which these blocks are opened: a kept rule applies some of its own declarations, and so do those inside a
-- body; any other kept block applies whatever it likes (own).
abbrev pub IsSceneOf : List Media → List Item → List KeptScene → Type 0
IsSceneOf media [] [] = Unit {0}
IsSceneOf media [] (x ∷ scene) = ⊥
IsSceneOf media (Rule r ∷ items) scene = IsSceneOf media items scene
IsSceneOf media (KeptRule k ∷ items) [] = ⊥
IsSceneOf media (KeptRule k ∷ items) (x ∷ scene) = All (λ e. Contains k.decls e.decl) x.plain × IsSceneOf media items scene
IsSceneOf media (KeptBlock piece ∷ items) [] = ⊥
IsSceneOf media (KeptBlock piece ∷ items) (x ∷ scene) =
    IfSome (block_at media piece) (λ m. AreMeanings m.sheet.items x.inside) × IsSceneOf (drop (blocks_at media (KeptBlock piece)) media) items scene

-- In a scene the kept items apply what they may.
abbrev pub ScenesGiveMeanings : Type 0
ScenesGiveMeanings = (doc : Document) (target : Target) (media : List Media) (items : List Item) (scene : List KeptScene) →
    IsSceneOf media items scene → AreMeanings items (meanings_of doc target (kept_blocks media items) scene)

-- The kept items of two sheets, of which one and the same are opened, and each two opened bodies have the same winner for what is
-- understood, where the kept items inside apply what the scene says.
abbrev pub BlocksWinAlike : Document → Target → List Understood → List (Option Media) → List (Option Media) → List KeptScene → Type 0
BlocksWinAlike doc target us [] [] scene = Unit {0}
BlocksWinAlike doc target us [] (o' ∷ blocks') scene = ⊥
BlocksWinAlike doc target us (o ∷ blocks) [] scene = ⊥
BlocksWinAlike doc target us (o ∷ blocks) (o' ∷ blocks') [] = Unit {0}
BlocksWinAlike doc target us (None ∷ blocks) (None ∷ blocks') (x ∷ scene) = BlocksWinAlike doc target us blocks blocks' scene
BlocksWinAlike doc target us (None ∷ blocks) (Some m' ∷ blocks') (x ∷ scene) = ⊥
BlocksWinAlike doc target us (Some m ∷ blocks) (None ∷ blocks') (x ∷ scene) = ⊥
BlocksWinAlike doc target us (Some m ∷ blocks) (Some m' ∷ blocks') (x ∷ scene) =
    (winner doc target x.inside m.sheet.items us ≡ winner doc target x.inside m'.sheet.items us) × BlocksWinAlike doc target us blocks blocks' scene

-- So an opened body counts by its winner alone: where bodies are replaced by sheets with the same winners, the winner of the sheet
-- around them stays.
abbrev pub BodiesCountByWinners : Type 0
BodiesCountByWinners = (doc : Document) (target : Target) (us : List Understood) (items : List Item) (blocks blocks' : List (Option Media)) (scene : List KeptScene) →
    BlocksWinAlike doc target us blocks blocks' scene →
    winner doc target (meanings_of doc target blocks scene) items us ≡ winner doc target (meanings_of doc target blocks' scene) items us

-- So it does where that sheet too is replaced by one with the same winner.
abbrev pub MergedSheetsWinAlike : Type 0
MergedSheetsWinAlike = (doc : Document) (target : Target) (us : List Understood) (items items' : List Item) (blocks blocks' : List (Option Media)) (scene : List KeptScene) →
    BlocksWinAlike doc target us blocks blocks' scene →
    winner doc target (meanings_of doc target blocks scene) items us ≡ winner doc target (meanings_of doc target blocks scene) items' us →
    winner doc target (meanings_of doc target blocks scene) items us ≡ winner doc target (meanings_of doc target blocks' scene) items' us
