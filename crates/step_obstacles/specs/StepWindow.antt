-- The window of a step, and the rules whose pairs it moves (own).
use Rattle.std.specs.Prelude.{◌≡◌, ◌↔◌, ℕ, true, List, [], ◌∷◌, Option, Some, None, slice_get}
use Rattle.std.specs.Borrow.{Bor}
use Rattle.std.specs.List.{Contains}
use Rattle.css_model.specs.Cascade.Order.{Pair}
use Rattle.css_model.specs.declared.sheet.Item.{Item}
use Rattle.css_model.specs.declared.sheet.Item.TheVariants.{Rule}
use Rattle.css_model.specs.Sheets.RuleParts.{RuleParts}
use Rattle.css_model.specs.Sheets.StyleRule.{selectors_of}
use Rattle.order_laws.specs.Edits.{Edit, is_moved}
use Rattle.step_laws.specs.declared.step.Step.{Step}
use Rattle.step_laws.specs.Steps.{IsStep, decls_of, last_item}
use Rattle.step_obstacles.specs.declared.facing.Source.{Source}
use Rattle.obstacles.specs.declared.obstacle.Obstacle.{Obstacle}
use Rattle.overlap.specs.PairsParts.{Answered}
use Rattle.sheet_order.specs.declared.places.Moved.{Moved}
use Rattle.sheet_order.specs.declared.places.Moved.TheVariants as moved
use Rattle.step_obstacles.specs.Blocked.{IsToldOf}
use Rattle.step_obstacles.specs.Turns.{OfWindow, is_common}
use Rattle.plan_laws.specs.Window.StepWindows.{window_start, middle_start, first_left, last_left}
use Rattle.window_order.specs.declared.window.Window.{Window}
use Rattle.window_order.specs.Left.{items_of}

-- a window is that of a step with this edit
pub record IsWindowFor (items : List Item) (k : Step) (e : Edit) (w : Window) : Type 0 where
  pub items_are : w.items.now ≡ items
  pub start_is : w.start ≡ window_start k
  pub middle_is : w.middle ≡ middle_start k
  pub last_is : w.last ≡ last_item k
  pub first_is : items_of w.first_left ≡ first_left e.changes
  pub last_left_is : items_of w.last_left ≡ last_left e.changes

-- a pair is one of a rule, with a common declaration
pub record IsOfSource (s : Source) (p : Pair) : Type 0 where
  pub selector : Contains (selectors_of s.rule.now) p.selector
  pub decl : Contains (decls_of s.rule.now) p.decl
  pub common : is_common s.with p.decl ≡ true

-- a step moves exactly the pairs of these rules
abbrev pub AreMoving : List Item → Step → List Source → Type 0
AreMoving items k sources = (e : Edit) → IsStep items k e → (p : Pair) → (is_moved e.moved p ≡ true) ↔ ((s : Source) × Contains sources s × IsOfSource s p)

-- ---- The rules, by what a step moves

-- all pairs of the rule of this number
pub record AreWhole (items : List Item) (n : ℕ) (sources : List Source) : Type 0 where
  pub source : Source
  pub are : sources ≡ source ∷ []
  pub with : source.with ≡ None
  pub rule_at : slice_get items n ≡ Some (Rule source.rule.now)

-- the common pairs of the rules of these numbers
pub record AreCommon (items : List Item) (x y : ℕ) (sources : List Source) : Type 0 where
  pub upper : Source
  pub lower : Source
  pub are : sources ≡ upper ∷ lower ∷ []
  pub upper_with : (l : Bor RuleParts) × (upper.with ≡ Some l) × (slice_get items y ≡ Some (Rule l.now))
  pub lower_with : (u : Bor RuleParts) × (lower.with ≡ Some u) × (slice_get items x ≡ Some (Rule u.now))
  pub upper_at : slice_get items x ≡ Some (Rule upper.rule.now)
  pub lower_at : slice_get items y ≡ Some (Rule lower.rule.now)

abbrev pub AreOf : List Item → Moved → List Source → Type 0
AreOf items (moved.Rule n) sources = AreWhole items n sources
AreOf items (moved.Common x y) sources = AreCommon items x y sources

-- the rules that are moved are there
abbrev pub AreThere : List Item → Moved → Type 0
AreThere items (moved.Rule n) = (r : RuleParts) × (slice_get items n ≡ Some (Rule r))
AreThere items (moved.Common x y) = ((r : RuleParts) × (slice_get items x ≡ Some (Rule r))) × ((r : RuleParts) × (slice_get items y ≡ Some (Rule r)))

-- What is told of the pairs of some rules that are moved.
abbrev pub IsToldBy : List Answered → List Item → Moved → Window → Option Obstacle → Type 0
IsToldBy answers items m w found = (sources : List Source) × AreOf items m sources × IsToldOf answers w (OfWindow w sources) found
