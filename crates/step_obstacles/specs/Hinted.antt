-- What is told of a moved pair by its numbers (own).
use Rattle.std.specs.Prelude.{◌≡◌, ℕ, ◌≤◌, List, Some, None, slice_get}
use Rattle.std.specs.Borrow.{Bor}
use Rattle.css_model.specs.declared.sheet.Decl.{Decl}
use Rattle.css_model.specs.declared.sheet.DeclItem.{DeclItem}
use Rattle.css_model.specs.declared.sheet.Item.{Item}
use Rattle.css_model.specs.Sheets.RuleParts.{RuleParts}
use Rattle.related_props.specs.Masks.{decl_mask}
use Rattle.sheet_order.specs.declared.places.Moved.{Moved}
use Rattle.sheet_order.specs.declared.places.Moved.TheVariants as moved
use Rattle.step_obstacles.specs.declared.facing.DeclAt.{DeclAt}
use Rattle.step_obstacles.specs.declared.facing.Facing.{Facing}
use Rattle.step_obstacles.specs.declared.facing.Facing.TheVariants as facing
use Rattle.step_obstacles.specs.declared.facing.Source.{Source}
use Rattle.step_obstacles.specs.Turns.{Faces, IsRuleAt}
use Rattle.window_order.specs.declared.window.Window.{Window}

-- the declaration of this number of a rule, which has this number itself
pub record IsDeclOf (rule : RuleParts) (item number : ℕ) (d : DeclAt) : Type 0 where
  pub part : DeclItem
  pub item_is : d.item ≡ item
  pub rule_is : d.rule.now ≡ rule
  pub number_is : d.number ≡ number
  pub part_at : slice_get rule.decls number ≡ Some part
  pub decl_is : part.decl ≡ d.decl.now
  pub masked : d.mask ≡ decl_mask d.decl.now

-- what a pair faces stands in a window
abbrev pub StandsWithin : Window → Facing → Type 0
StandsWithin w (facing.Pair q place k) = (w.start ≤ place.item) × (place.item ≤ w.last)
StandsWithin w (facing.Kept i) = Unit {0}

-- it does, and weighs with the pairs of a declaration but for specificity
pub record FacesWithin (w : Window) (d : Decl) (f : Facing) : Type 0 where
  pub faces : Faces w d f
  pub within : StandsWithin w f

-- the rule that is moved, of two the upper one, all pairs of which are moved, or those that are common
abbrev pub IsFirstOf : List Item → Moved → Source → Type 0
IsFirstOf items (moved.Rule n) s = (s.item ≡ n) × (s.with ≡ None) × IsRuleAt items n s.rule.now
IsFirstOf items (moved.Common x y) s = (s.item ≡ x) × ((l : Bor RuleParts) × (s.with ≡ Some l) × IsRuleAt items y l.now) × IsRuleAt items x s.rule.now
