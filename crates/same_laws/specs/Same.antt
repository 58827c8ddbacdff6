-- What it means that nothing is found in two sheets.
use Rattle.std.specs.Prelude.{◌≡◌, ◌↔◌, ℕ, List, [], Option, None, Ok}
use Rattle.css_model.specs.declared.sheet.Item.{Item}
use Rattle.css_model.specs.Cascade.Order.{Keeps}
use Rattle.css_model.specs.Cascade.Winner.{Understood, winner}
use Rattle.css_model.specs.Documents.Document.{Document, Target, IsLegal}
use Rattle.css_model.specs.Sheets.Sheet.{sheet_of}
use Rattle.media_groups.specs.declared.media.Media.{Media}
use Rattle.media_groups.specs.Opened.{opened_of}
use Rattle.opened_laws.specs.Media.Scenes.{KeptScene, IsSceneOf, kept_blocks, meanings_of}
use Rattle.order_laws.specs.Keeping.{AreRelated}
use Rattle.overlap.specs.PairsParts.{PairsParts}
use Rattle.overlap.specs.Remembered.{IsTrueList}
use Rattle.sheet_same.specs.Compared.{IsDifference, IsFound, nothing}

-- ---- Where no block is opened

-- Two sheets in which nothing is found by four tests, by true answers, where no block is opened, keep each other.
abbrev pub SamePartsKeep : Type 0
SamePartsKeep = (pairs : PairsParts) → ∥ IsTrueList pairs ∥₁ → (source : List ℕ) (s : List Item) (other : List ℕ) (t : List Item) →
    IsFound pairs.answers source [] s other [] t None → Keeps source s other t

-- ---- Where blocks are opened

-- Two sheets are read, and nothing is found in them by five tests, by true answers.
pub record AreSame (source : List ℕ) (s : List Item) (other : List ℕ) (t : List Item) : Type 0 where
  pub first_read : sheet_of source ≡ Ok s
  pub second_read : sheet_of other ≡ Ok t
  pub pairs : PairsParts
  pub true_list : ∥ IsTrueList pairs ∥₁
  pub compared : IsDifference pairs.answers source s other t nothing

-- What a browser makes of the kept items of the one it may make of those of the other.
abbrev pub SameSheetsHaveOneScene : Type 0
SameSheetsHaveOneScene = (source : List ℕ) (s : List Item) (other : List ℕ) (t : List Item) → AreSame source s other t →
    (scene : List KeptScene) → IsSceneOf (opened_of s source) s scene ↔ IsSceneOf (opened_of t other) t scene

-- what the kept items of a sheet apply in a scene, where its blocks of media are opened
abbrev pub opened_blocks : List ℕ → List Item → List (Option Media)
opened_blocks source items = kept_blocks (opened_of items source) items

-- They have the same winners: in each legal document, for each target, of all understood declarations that compete, and in each
-- scene the same declaration wins (CSS Cascading 3, section 6).
abbrev pub SameSheetsWinAlike : Type 0
SameSheetsWinAlike = (source : List ℕ) (s : List Item) (other : List ℕ) (t : List Item) → AreSame source s other t →
    (doc : Document) (target : Target) (us : List Understood) (scene : List KeptScene) → IsLegal doc → AreRelated us → IsSceneOf (opened_of s source) s scene →
    winner doc target (meanings_of doc target (opened_blocks source s) scene) s us ≡ winner doc target (meanings_of doc target (opened_blocks other t) scene) t us
