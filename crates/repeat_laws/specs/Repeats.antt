-- Cuts of parts that their rule has again (own).
use Rattle.std.specs.Prelude.{◌≡◌, ◌≢◌, ℕ, ◌<◌, List, Some, slice_get}
use Rattle.css_model.specs.declared.sheet.DeclItem.{DeclItem}
use Rattle.css_model.specs.declared.sheet.Item.{Item}
use Rattle.css_model.specs.declared.sheet.Item.TheVariants.{Rule}
use Rattle.css_model.specs.declared.sheet.SelItem.{SelItem}
use Rattle.css_model.specs.Sheets.RuleParts.{RuleParts}
use Rattle.css_model.specs.Sheets.Sound.{IsSound}
use Rattle.order_laws.specs.Edits.{Edit}
use Rattle.step_laws.specs.declared.step.Step.{Step}
use Rattle.step_laws.specs.declared.step.Step.TheVariants.{CutDecl, CutSel, JoinSelUp, JoinSelDown, JoinDeclUp, JoinDeclDown, Share}
use Rattle.step_laws.specs.Free.{Answered, IsFree}
use Rattle.step_laws.specs.Steps.{IsStep}

-- the declaration of this number is in the list again, after it
pub record IsDeclAgain (decls : List DeclItem) (i : ℕ) : Type 0 where
  pub later : ℕ
  pub one : DeclItem
  pub other : DeclItem
  pub one_at : slice_get decls i ≡ Some one
  pub other_at : slice_get decls later ≡ Some other
  pub after : i < later
  pub same : other.decl ≡ one.decl

-- the selector of this number is in the list again, before it or after it
pub record IsSelAgain (selectors : List SelItem) (i : ℕ) : Type 0 where
  pub place : ℕ
  pub one : SelItem
  pub other : SelItem
  pub one_at : slice_get selectors i ≡ Some one
  pub other_at : slice_get selectors place ≡ Some other
  pub elsewhere : place ≢ i
  pub same : other.selector ≡ one.selector

-- A step cuts a part that its rule has again: of equal declarations one that is not the last, of equal selectors any one.
abbrev pub CutsRepeat : List Item → Step → Type 0
CutsRepeat items (CutDecl n i) = (r : RuleParts) × (slice_get items n ≡ Some (Rule r)) × IsDeclAgain r.decls i
CutsRepeat items (CutSel n i) = (r : RuleParts) × (slice_get items n ≡ Some (Rule r)) × IsSelAgain r.selectors i
CutsRepeat items (JoinSelUp x y) = ⊥
CutsRepeat items (JoinSelDown x y) = ⊥
CutsRepeat items (JoinDeclUp x y) = ⊥
CutsRepeat items (JoinDeclDown x y) = ⊥
CutsRepeat items (Share x y) = ⊥

-- Such a cut of a sound sheet is free, whatever was answered: it reverses nothing.
abbrev pub RepeatsAreFree : Type 0
RepeatsAreFree = (answers : List Answered) (source : List ℕ) (items : List Item) (k : Step) (e : Edit) → IsSound source items → CutsRepeat items k → IsStep items k e → IsFree answers items e
