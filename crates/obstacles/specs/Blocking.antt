-- What blocks a step of a sheet, told by places (own).
use Rattle.std.specs.Prelude.{◌≡◌, ℕ, true, List, Some, slice_get}
use Rattle.css_model.specs.declared.sheet.DeclItem.{DeclItem}
use Rattle.css_model.specs.declared.sheet.Item.{Item}
use Rattle.css_model.specs.declared.sheet.Item.TheVariants.{Rule}
use Rattle.css_model.specs.declared.sheet.SelItem.{SelItem}
use Rattle.css_model.specs.Cascade.Order.{Pair}
use Rattle.css_model.specs.Sheets.KeptItems.{is_kept, kept_before}
use Rattle.css_model.specs.Sheets.RuleParts.{RuleParts}
use Rattle.obstacles.specs.declared.obstacle.Obstacle.{Obstacle}
use Rattle.obstacles.specs.declared.obstacle.Other.{Other}
use Rattle.obstacles.specs.declared.obstacle.Other.TheVariants as others
use Rattle.obstacles.specs.declared.obstacle.PairPlace.{PairPlace}
use Rattle.order_laws.specs.Edits.{Edit}
use Rattle.step_laws.specs.declared.step.Step.{Step}
use Rattle.step_laws.specs.Free.{Answered}
use Rattle.step_laws.specs.Steps.{IsStep}
use Rattle.plan_laws.specs.Barrier.Hindering.{Hindrance, OfPair, OfKept, Hinders}

-- a pair stands at a place: its selector and its declaration have these numbers in the rule of this number
pub record IsAt (items : List Item) (place : PairPlace) (p : Pair) : Type 0 where
  pub rule : RuleParts
  pub selector : SelItem
  pub decl : DeclItem
  pub rule_at : slice_get items place.item ≡ Some (Rule rule)
  pub selector_at : slice_get rule.selectors place.sel ≡ Some selector
  pub decl_at : slice_get rule.decls place.decl ≡ Some decl
  pub is : p ≡ record { selector = selector.selector; decl = decl.decl }

-- the kept item of a number among all items has this number among the kept ones
pub record IsKeptAt (items : List Item) (n number : ℕ) : Type 0 where
  pub item : Item
  pub item_at : slice_get items n ≡ Some item
  pub kept : is_kept item ≡ true
  pub number_is : number ≡ kept_before n items

-- the pair of what may block a step that the step moves
abbrev pub moved_pair : Hindrance → Pair
moved_pair (OfPair p q) = p
moved_pair (OfKept p number) = p

-- what it is reversed with is what stands there
abbrev pub IsOther : List Item → Other → Hindrance → Type 0
IsOther items (others.Pair place) (OfPair p q) = IsAt items place q
IsOther items (others.Pair place) (OfKept p number) = ⊥
IsOther items (others.Kept n) (OfPair p q) = ⊥
IsOther items (others.Kept n) (OfKept p number) = IsKeptAt items n number

-- an obstacle names what may block a step, by places
pub record Names (items : List Item) (o : Obstacle) (by : Hindrance) : Type 0 where
  pub moved : IsAt items o.moved (moved_pair by)
  pub other : IsOther items o.other by

-- a step is blocked by what an obstacle names
pub record IsBlockedBy (answers : List Answered) (items : List Item) (k : Step) (o : Obstacle) : Type 0 where
  pub by : Hindrance
  pub names : Names items o by
  pub hinders : (e : Edit) → IsStep items k e → Hinders answers items e by
