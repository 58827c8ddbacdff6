-- Plans of a sheet and of the bodies of its opened blocks.
use Rattle.std.specs.Prelude.{ℕ, ◌≡◌, ◌⊎◌, ◌+◌, ◌≤◌, List, [], ◌∷◌, Option, Some, None}
use Rattle.css_model.specs.declared.sheet.Item.{Item}
use Rattle.css_model.specs.Sheets.ComesFrom.{pair_count}
use Rattle.css_model.specs.Sheets.Limits.{max_pairs}
use Rattle.css_model.specs.Sheets.SheetParts.{SheetParts}
use Rattle.css_model.specs.Text.Source.{text_at}
use Rattle.media_groups.specs.declared.media.Media.{Media}
use Rattle.step_laws.specs.Free.{Answered}
use Rattle.step_laws.specs.Leading.{Leads, IsDone}

-- How a plan ends (own): nothing is left to do; or, if so much work was spent, at any sheet with no more pairs than one may have that is
-- read.
abbrev pub EndsBy : (spent : Option ℕ) → List Answered → List ℕ → List Item → Type 0
EndsBy None answers source items = IsDone answers source items
EndsBy (Some work) answers source items = IsDone answers source items ⊎ (pair_count items ≤ max_pairs)

-- So many steps, each of them the next one, lead from one sheet to another, where the plan ends (own).
pub record IsPlanWithin (spent : Option ℕ) (answers : List Answered) (source : List ℕ) (steps : ℕ) (old new : List Item) : Type 0 where
  pub leads : Leads answers source steps old new
  pub ends : EndsBy spent answers source new

-- the same, where nothing is left to do
abbrev pub IsPlan : List Answered → List ℕ → ℕ → List Item → List Item → Type 0
IsPlan = IsPlanWithin None

-- a plan of the body of an opened block, by the bytes of the body
abbrev pub IsBodyPlanWithin : (spent : Option ℕ) → List Answered → List ℕ → Media → ℕ → SheetParts → Type 0
IsBodyPlanWithin spent answers source m steps body = IsPlanWithin spent answers (text_at source m.body) steps m.sheet.items body.items

-- plans of the bodies of these opened blocks, one for each, which lead to these sheets by so many steps together
abbrev pub AreBodyPlansWithin : (spent : Option ℕ) → List Answered → List ℕ → List Media → ℕ → List SheetParts → Type 0
AreBodyPlansWithin spent answers source [] steps [] = steps ≡ 0
AreBodyPlansWithin spent answers source [] steps (body ∷ bodies) = ⊥
AreBodyPlansWithin spent answers source (m ∷ media) steps [] = ⊥
AreBodyPlansWithin spent answers source (m ∷ media) steps (body ∷ bodies) =
    (some : ℕ) × (others : ℕ) × IsBodyPlanWithin spent answers source m some body × AreBodyPlansWithin spent answers source media others bodies × (steps ≡ some + others)

-- the same, where nothing is left to do in the bodies
abbrev pub AreBodyPlans : List Answered → List ℕ → List Media → ℕ → List SheetParts → Type 0
AreBodyPlans = AreBodyPlansWithin None
