-- What may block a step, as it is looked at one after the other (own).
use Rattle.std.specs.Prelude.{◌≡◌, ℕ, ◌≤◌, ◌<◌, ◌^◌, ◌+◌, ◌-◌, if◌then◌else◌, Bool, true, List, [], ◌∷◌, Option, Some, None, bit_or, length, map, slice_get}
use Rattle.std.specs.Borrow.{Bor}
use Rattle.std.specs.List.{Contains}
use Rattle.css_model.specs.Cascade.Order.{Pair, WeighsKept}
use Rattle.css_model.specs.declared.selector.Specificity.{Specificity}
use Rattle.css_model.specs.declared.sheet.Decl.{Decl}
use Rattle.css_model.specs.declared.sheet.DeclItem.{DeclItem}
use Rattle.css_model.specs.declared.sheet.Item.{Item}
use Rattle.css_model.specs.declared.sheet.Item.TheVariants as kinds
use Rattle.css_model.specs.declared.sheet.SelItem.{SelItem}
use Rattle.css_model.specs.Documents.Specificity.{specificity_of}
use Rattle.css_model.specs.Selectors.Profile.{IsInProfile}
use Rattle.css_model.specs.Sheets.KeptItems.{is_kept, kept_before}
use Rattle.css_model.specs.Sheets.RuleParts.{RuleParts}
use Rattle.obstacles.specs.Blocking.{IsAt}
use Rattle.obstacles.specs.declared.obstacle.Other.{Other}
use Rattle.obstacles.specs.declared.obstacle.Other.TheVariants as others
use Rattle.item_masks.specs.Masks.{selector_mask}
use Rattle.order_laws.specs.Members.{has_decl}
use Rattle.related_props.specs.Masks.{decl_mask, item_mask}
use Rattle.step_obstacles.specs.Among.{Among}
use Rattle.step_obstacles.specs.Blocked.{IsKeptIn}
use Rattle.step_obstacles.specs.declared.facing.DeclAt.{DeclAt}
use Rattle.step_obstacles.specs.declared.facing.Facing.{Facing}
use Rattle.step_obstacles.specs.declared.facing.Facing.TheVariants as facing
use Rattle.step_obstacles.specs.declared.facing.Met.{Met}
use Rattle.step_obstacles.specs.declared.facing.MetRule.{MetRule}
use Rattle.step_obstacles.specs.declared.facing.MovedDecl.{MovedDecl}
use Rattle.step_obstacles.specs.declared.facing.Source.{Source}
use Rattle.step_obstacles.specs.declared.window_search.Span.{Span}
use Rattle.plan_laws.specs.Barrier.Hindering.{Hindrance, OfPair, OfKept}
use Rattle.window_order.specs.declared.window.Window.{Window}
use Rattle.window_order.specs.Weighing.{DeclsWeigh}

-- ---- What the code has at hand

-- A sheet of which all may be asked and named: its rules have few parts, and selectors of the profile.
pub record IsAskable (items : List Item) : Type 0 where
  pub few : length items < 2 ^ 32
  pub selectors : (n : ℕ) (r : RuleParts) → slice_get items n ≡ Some (kinds.Rule r) → length r.selectors < 2 ^ 32
  pub decls : (n : ℕ) (r : RuleParts) → slice_get items n ≡ Some (kinds.Rule r) → length r.decls < 2 ^ 32
  pub profile : (n : ℕ) (r : RuleParts) (s : SelItem) → slice_get items n ≡ Some (kinds.Rule r) → Contains r.selectors s → IsInProfile s.selector

-- a declaration of a rule stands where it says
pub record IsDeclAt (items : List Item) (d : DeclAt) : Type 0 where
  pub item : DeclItem
  pub rule_at : slice_get items d.item ≡ Some (kinds.Rule d.rule.now)
  pub decl_at : slice_get d.rule.now.decls d.number ≡ Some item
  pub is : item.decl ≡ d.decl.now
  pub masked : d.mask ≡ decl_mask d.decl.now

-- the specificities of some selectors
abbrev pub specificities_of : List SelItem → List Specificity
specificities_of selectors = map (λ x. specificity_of x.selector) selectors

-- their masks
abbrev pub selector_masks_of : List SelItem → List ℕ
selector_masks_of selectors = map (λ x. selector_mask x.selector) selectors

-- a declaration whose pairs are moved has those of its rule's selectors
pub record IsMovedDecl (items : List Item) (d : MovedDecl) : Type 0 where
  pub at : IsDeclAt items d.at
  pub specificities : d.specificities.now ≡ specificities_of d.at.rule.now.selectors
  pub selectors : d.selectors.now ≡ selector_masks_of d.at.rule.now.selectors

-- so does a rule
abbrev pub IsRuleAt : List Item → ℕ → RuleParts → Type 0
IsRuleAt items n r = slice_get items n ≡ Some (kinds.Rule r)

abbrev pub AreSources : List Item → List Source → Type 0
AreSources items sources = (s : Source) → Contains sources s → IsRuleAt items s.item s.rule.now

-- an item of a window has this number in the sheet
pub record IsItemOf (w : Window) (n : ℕ) (item : Item) : Type 0 where
  pub item_at : slice_get w.items.now n ≡ Some item
  pub above : w.start ≤ n
  pub below : n ≤ w.last

-- a kept one does
abbrev pub IsKeptHere : Window → ℕ → Item → Type 0
IsKeptHere w n item = IsItemOf w n item × (is_kept item ≡ true)

-- what a pair of a declaration faces stands where it says, and weighs with it but for specificity
abbrev pub Faces : Window → Decl → Facing → Type 0
Faces w d (facing.Pair q place k) = DeclsWeigh d q.decl × IsInProfile q.selector × IsAt w.items.now place q × (k ≡ specificity_of q.selector)
Faces w d (facing.Kept i) = (k : IsKeptIn w i) × ((p : Pair) → p.decl ≡ d → WeighsKept p k.item)

-- a pair of a specificity may weigh with what it faces
abbrev pub MayWeigh : Specificity → Facing → Type 0
MayWeigh k (facing.Pair q place other) = k ≡ other
MayWeigh k (facing.Kept i) = Unit {0}

-- what a pair and what it faces may be
abbrev pub hindrance_of : List Item → Facing → Pair → Hindrance
hindrance_of list (facing.Pair q place k) p = OfPair p q
hindrance_of list (facing.Kept i) p = OfKept p (kept_before i list)

-- what a pair faces, by its place
abbrev pub other_of : Facing → Other
other_of (facing.Pair q place k) = others.Pair place
other_of (facing.Kept i) = others.Kept i

-- ---- What is looked at, the innermost first

abbrev pub pair_of : SelItem → Decl → Pair
pair_of s d = record { selector = s.selector; decl = d }

-- a declaration stands in another rule too, if one is given
abbrev pub is_common : Option (Bor RuleParts) → Decl → Bool
is_common None d = true
is_common (Some r) d = has_decl r.now.decls d

-- the mask of a declaration, if it is common; of others 0
abbrev pub mask_in : Option (Bor RuleParts) → DeclItem → ℕ
mask_in with x = if is_common with x.decl then decl_mask x.decl else 0

-- a mask with others put to it
abbrev pub with_masks : ℕ → List ℕ → ℕ
with_masks mask [] = mask
with_masks mask (m ∷ ms) = with_masks (bit_or mask m) ms

-- the masks of a rule are those of its declarations whose pairs are moved, and it has the specificities and the masks
-- of its selectors
pub record IsMasked (s : Source) : Type 0 where
  pub masks : s.masks.items ≡ map (mask_in s.with) s.rule.now.decls
  pub mask : s.mask ≡ with_masks 0 s.masks.items
  pub specificities : s.specificities.items ≡ specificities_of s.rule.now.selectors
  pub selectors : s.selectors.items ≡ selector_masks_of s.rule.now.selectors

abbrev pub AreMasked : List Source → Type 0
AreMasked sources = (s : Source) → Contains sources s → IsMasked s

-- one of some selectors has a specificity that is among these
abbrev pub HaveOneOf : List Specificity → List SelItem → Type 0
HaveOneOf specificities selectors = (x : SelItem) × Contains selectors x × Contains specificities (specificity_of x.selector)

-- a pair of an item may weigh with one of a rule: both have a specificity in common, or it is kept
abbrev pub ItemMayWeigh : Source → Item → Type 0
ItemMayWeigh s (kinds.Rule r) = HaveOneOf s.specificities.items r.selectors
ItemMayWeigh s (kinds.KeptRule k) = Unit {0}
ItemMayWeigh s (kinds.KeptBlock k) = Unit {0}

-- masks of all declarations of an item, if it is a rule
abbrev pub AreMasksIn : Item → List ℕ → Type 0
AreMasksIn (kinds.Rule r) masks = masks ≡ map (mask_in None) r.decls
AreMasksIn (kinds.KeptRule k) masks = Unit {0}
AreMasksIn (kinds.KeptBlock k) masks = Unit {0}

-- an item of a window that is looked at
pub record IsMet (w : Window) (m : Met) : Type 0 where
  pub item : IsItemOf w m.number m.item.now
  pub mask : m.mask ≡ item_mask m.item.now
  pub masks : AreMasksIn m.item.now m.masks.now

-- a rule of a sheet that is looked at
pub record IsMetRule (items : List Item) (m : MetRule) : Type 0 where
  pub rule : IsRuleAt items m.item m.rule.now
  pub masks : m.masks.now ≡ map (mask_in None) m.rule.now.decls

-- the pairs of a declaration of a rule with something
abbrev pub OfSelectors : RuleParts → Decl → (Pair → Hindrance) → Hindrance → Type 0
OfSelectors r d f by = Among r.selectors (λ x by. by ≡ f (pair_of x d)) by

-- with the pairs of another declaration
abbrev pub OfOther : RuleParts → Decl → RuleParts → Decl → Hindrance → Type 0
OfOther r d other f by = Among other.selectors (λ y by. OfSelectors r d (λ p. OfPair p (pair_of y f)) by) by

-- with the pairs of a rule
abbrev pub OfRule : RuleParts → Decl → RuleParts → Hindrance → Type 0
OfRule r d other by = Among other.decls (λ g by. OfOther r d other g.decl by) by

-- with a kept item of this number
abbrev pub with_kept : List Item → ℕ → Pair → Hindrance
with_kept list n p = OfKept p (kept_before n list)

-- with an item of this number
abbrev pub OfItem : RuleParts → Decl → List Item → ℕ → Item → Hindrance → Type 0
OfItem r d list n (kinds.Rule other) by = OfRule r d other by
OfItem r d list n (kinds.KeptRule k) by = OfSelectors r d (with_kept list n) by
OfItem r d list n (kinds.KeptBlock k) by = OfSelectors r d (with_kept list n) by

-- the pairs of a declaration of a rule with an item, if it is common
abbrev pub OfDecl : List Item → ℕ → Item → Source → DeclItem → Hindrance → Type 0
OfDecl list n item s x by = (is_common s.with x.decl ≡ true) × OfItem s.rule.now x.decl list n item by

-- the pairs of a rule with an item
abbrev pub OfSource : List Item → ℕ → Item → Source → Hindrance → Type 0
OfSource list n item s by = Among s.rule.now.decls (OfDecl list n item s) by

-- those of some rules
abbrev pub OfSources : List Item → ℕ → Item → List Source → Hindrance → Type 0
OfSources list n item sources by = Among sources (OfSource list n item) by

-- those of some rules with the item of this number
abbrev pub OfNumber : List Item → List Source → ℕ → Hindrance → Type 0
OfNumber list sources n by = (item : Item) × (slice_get list n ≡ Some item) × OfSources list n item sources by

-- with the items of a window
abbrev pub OfWindow : Window → List Source → Hindrance → Type 0
OfWindow w sources by = (n : ℕ) × (w.start ≤ n) × (n ≤ w.last) × OfNumber w.items.now sources n by

-- ---- In which order

-- the item whose turn it is: upwards from the last one of a span, or downwards from the first one
abbrev pub number_of : Span → Bool → ℕ → ℕ
number_of s upwards turn = if upwards then s.end - 1 - turn else s.first + turn

-- with the items that had their turn
abbrev pub OfTurns : Window → Span → Bool → ℕ → List Source → Hindrance → Type 0
OfTurns w s upwards turns sources by = (n : ℕ) × (n < turns) × OfNumber w.items.now sources (number_of s upwards n) by
