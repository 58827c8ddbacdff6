-- Scenes in which blocks with one normal head hold together and alike kept items apply the same, and who wins there (own; CSS
-- Cascading 3, section 6; CSS Conditional Rules 3, section 2).
use Rattle.std.specs.Prelude.{◌≡◌, ℕ, Bool, not, List, [], ◌∷◌, ◌++◌, map, Option, Some, None}
use Rattle.std.specs.List.{filter}
use Rattle.std.specs.Option.{option_map}
use Rattle.css_model.specs.declared.sheet.Decl.{Decl}
use Rattle.css_model.specs.declared.sheet.Item.{Item}
use Rattle.css_model.specs.Cascade.Winner.{AppliedDeclaration, Declared, Understood, Winner, applied, greatest, is_understood, outcome}
use Rattle.css_model.specs.Documents.Document.{Document, Target}
use Rattle.css_model.specs.Sheets.Spelling.{kept_text}
use Rattle.media_groups.specs.declared.media.Media.{Media}
use Rattle.media_groups.specs.Opened.{opened_of}
use Rattle.normal_text.specs.Normal.{normal_head, normal_value}
use Rattle.opened_laws.specs.Media.Scenes.{IsSceneOf, KeptScene, kept_blocks, meanings_of}
use Rattle.sheet_members.specs.Labels.{Label}
use Rattle.sheet_members.specs.Members.{Member, is_pair, members}

-- ---- Winners over normal values

-- a declaration with the normal text of its value
abbrev pub normal_decl : Decl → Decl
normal_decl d = record { name = d.name; value = normal_value d; important = d.important }

abbrev pub normal_declared : Declared → Declared
normal_declared d = record { decl = normal_decl d.decl; specificity = d.specificity }

abbrev pub normal_applied : AppliedDeclaration → AppliedDeclaration
normal_applied e = record { decl = normal_decl e.decl; specificity = e.specificity; place = e.place }

-- The winner of the cascade over normal values: the greatest of the applied declarations whose property and normal value are
-- understood, if there is one, with its normal value.
abbrev pub normal_winner : Document → Target → List (List Declared) → List Item → List Understood → Option Winner
normal_winner doc target meanings items us = option_map outcome (greatest (filter (is_understood us) (map normal_applied (applied doc target meanings items))))

-- ---- Scenes

-- the kept items of a sheet, each with the opened block that it is, if it is one
abbrev pub blocks_of : (source : List ℕ) (items : List Item) → List (Option Media)
blocks_of source items = kept_blocks (opened_of items source) items

-- in a scene of these kept items exactly the opened blocks hold whose normal heads do
abbrev pub HoldTogether : (holds : List ℕ → Bool) → (source : List ℕ) → List (Option Media) → List KeptScene → Type 0
HoldTogether holds source [] scene = Unit {0}
HoldTogether holds source (o ∷ blocks) [] = Unit {0}
HoldTogether holds source (None ∷ blocks) (x ∷ scene) = HoldTogether holds source blocks scene
HoldTogether holds source (Some m ∷ blocks) (x ∷ scene) = (x.holds ≡ holds (normal_head (kept_text source m.head))) × HoldTogether holds source blocks scene

-- what the kept items that are not opened apply in a scene, in the order in which they occur: in the place of an opened block
-- those of its body
abbrev pub applied_in : List (Option Media) → List KeptScene → List (List Declared)
applied_in [] scene = []
applied_in (o ∷ blocks) [] = []
applied_in (None ∷ blocks) (x ∷ scene) = x.plain ∷ applied_in blocks scene
applied_in (Some m ∷ blocks) (x ∷ scene) = x.inside ++ applied_in blocks scene

-- the labels of the members of a sheet that are kept items
abbrev pub kept_labels : List Member → List Label
kept_labels ms = map (λ m. m.label) (filter (λ m. not (is_pair m.occurrence.part)) ms)

-- A scene of a sheet in which the opened blocks hold whose normal heads do, and each other kept item applies what is said of its
-- label, over normal values. So blocks with one normal head hold together, and alike kept items apply the same.
pub record IsSceneWhere (holds : List ℕ → Bool) (means : Label → List Declared) (source : List ℕ) (items : List Item) (scene : List KeptScene) : Type 0 where
  pub is_scene : IsSceneOf (opened_of items source) items scene
  pub blocks : HoldTogether holds source (blocks_of source items) scene
  pub kept : map (map normal_declared) (applied_in (blocks_of source items) scene) ≡ map means (kept_labels (members source items))

-- the winner in a scene over normal values
abbrev pub normal_winner_in : Document → Target → (source : List ℕ) (items : List Item) → List KeptScene → List Understood → Option Winner
normal_winner_in doc target source items scene us = normal_winner doc target (meanings_of doc target (blocks_of source items) scene) items us
