-- What it means that nothing is found between two sheets laid flat.
use Rattle.std.specs.Prelude.{◌≡◌, ◌<◌, Bool, ℕ, List, [], Ok}
use Rattle.css_model.specs.declared.sheet.Item.{Item}
use Rattle.css_model.specs.Cascade.Winner.{Declared, Understood}
use Rattle.css_model.specs.Documents.Document.{Document, IsLegal, Target}
use Rattle.css_model.specs.Sheets.Sheet.{sheet_of}
use Rattle.opened_laws.specs.Media.Scenes.{KeptScene}
use Rattle.order_laws.specs.Keeping.{AreRelated}
use Rattle.overlap.specs.PairsParts.{PairsParts}
use Rattle.overlap.specs.Remembered.{IsTrueList}
use Rattle.sheet_members.specs.Compared.{changed, compared}
use Rattle.sheet_members.specs.Labels.{Label}
use Rattle.turned_members.specs.Telling.{AreTold}
use Rattle.turned_members.specs.Turned.{turned}
use Rattle.diff_laws.specs.Scenes.{IsSceneWhere, normal_winner_in}

-- Two sheets are read, and nothing is found between them by true answers: no member is missing, extra or changed, and no couple is
-- told, where at least one may be (own).
pub record AreSame (source : List ℕ) (s : List Item) (other : List ℕ) (t : List Item) : Type 0 where
  pub first_read : sheet_of source ≡ Ok s
  pub second_read : sheet_of other ≡ Ok t
  pub pairs : PairsParts
  pub true_list : ∥ IsTrueList pairs ∥₁
  pub limit : ℕ
  pub some : 0 < limit
  pub none_told : AreTold pairs.answers limit [] (turned (compared source s other t).commons) []
  pub none_missing : (compared source s other t).missing ≡ []
  pub none_extra : (compared source s other t).extra ≡ []
  pub none_changed : changed (compared source s other t) ≡ []

-- They have the same winners over normal values: in each legal document, for each target, of all understood declarations that compete
-- (CSS Cascading 3, section 6), and in each two scenes in which blocks with one normal head hold together and alike kept items
-- apply the same.
abbrev pub SameMembersWinAlike : Type 0
SameMembersWinAlike = (source : List ℕ) (s : List Item) (other : List ℕ) (t : List Item) → AreSame source s other t →
    (doc : Document) (target : Target) (us : List Understood) (holds : List ℕ → Bool) (means : Label → List Declared) (scene scene' : List KeptScene) →
    IsLegal doc → AreRelated us → IsSceneWhere holds means source s scene → IsSceneWhere holds means other t scene' →
    normal_winner_in doc target source s scene us ≡ normal_winner_in doc target other t scene' us
