-- The pairs of a sheet, and where the order of its parts counts. Two sheets of which one keeps the other
-- may differ in everything else: in how rules are cut, repeated or ordered.
use Rattle.std.specs.Prelude.{◌≡◌, ◌≢◌, ◌↔◌, ℕ, ◌≤◌, List, map, Some, slice_get}
use Rattle.std.specs.List.{Contains, filter}
use Rattle.css_model.specs.declared.sheet.Decl.{Decl}
use Rattle.css_model.specs.declared.sheet.DeclItem.{DeclItem}
use Rattle.css_model.specs.declared.sheet.Item.{Item}
use Rattle.css_model.specs.declared.sheet.Item.TheVariants.{Rule, KeptRule, KeptBlock}
use Rattle.css_model.specs.Cascade.Winner.{Place}
use Rattle.css_model.specs.Documents.Document.{Document, Target, IsLegal}
use Rattle.css_model.specs.Cascade.Family.{Related}
use Rattle.css_model.specs.Cascade.Winner.{IsLater}
use Rattle.css_model.specs.Sheets.KeptItems.{is_kept, kept_before, kept_items}
use Rattle.css_model.specs.Documents.Matching.{Matches}
use Rattle.css_model.specs.Sheets.RuleParts.{RuleParts}
use Rattle.css_model.specs.Documents.SelectorParts.{SelectorParts}
use Rattle.css_model.specs.Documents.Specificity.{specificity_of}
use Rattle.css_model.specs.Sheets.Spelling.{Content, content}
use Rattle.css_model.specs.Sheets.StyleRule.{selectors_of}

-- Two selectors meet: some legal document has a target that both match (own; matching is that of
-- Selectors 3).
pub record Meet (x y : SelectorParts) : Type 0 where
  pub doc : Document
  pub target : Target
  pub legal : IsLegal doc
  pub first : Matches doc target x
  pub second : Matches doc target y

-- a selector and a declaration that a rule gives to what the selector matches (own)
pub record Pair : Type 0 where
  pub selector : SelectorParts
  pub decl : Decl

-- the pair stands at this place: in a rule with this selector, at its declaration of this position
pub record IsPairAt (items : List Item) (pair : Pair) (place : Place) : Type 0 where
  pub rule : RuleParts
  pub decl : DeclItem
  pub rule_at : slice_get items place.item ≡ Some (Rule rule)
  pub selector_in : Contains (selectors_of rule) pair.selector
  pub decl_at : slice_get rule.decls place.position ≡ Some decl
  pub decl_is : decl.decl ≡ pair.decl

abbrev pub HasPair : List Item → Pair → Type 0
HasPair items pair = (place : Place) × IsPairAt items pair place

-- the last place of a pair, by the order of appearance (CSS Cascading 3, section 6)
pub record IsLast (items : List Item) (pair : Pair) (place : Place) : Type 0 where
  pub stands : IsPairAt items pair place
  pub last : (other : Place) → IsPairAt items pair other → IsLater other place → ⊥

-- Two pairs weigh: nothing but their order decides between them where both apply, and it makes a difference
-- (own; by CSS Cascading 3, section 6, importance and specificity come before the order). Of names that
-- are not related none sets what the other one sets.
pub record Weigh (p q : Pair) : Type 0 where
  pub different : p.decl ≢ q.decl
  pub names : Related p.decl.name q.decl.name
  pub importance : p.decl.important ≡ q.decl.important
  pub specificity : specificity_of p.selector ≡ specificity_of q.selector

-- a declaration of a kept rule, whose specificity is not known, against that of a pair
pub record WeighsOne (pair : Pair) (d : Decl) : Type 0 where
  pub names : Related pair.decl.name d.name
  pub importance : pair.decl.important ≡ d.important

-- A pair and a kept item weigh: a kept rule by one of its declarations, a kept block always, as it may
-- apply anything (own).
abbrev pub WeighsKept : Pair → Item → Type 0
WeighsKept pair (Rule rule) = ⊥
WeighsKept pair (KeptRule kept) = (d : Decl) × Contains kept.decls d × WeighsOne pair d
WeighsKept pair (KeptBlock piece) = Unit {0}

-- the last of p stands before the last of q
pub record IsBefore (items : List Item) (p q : Pair) : Type 0 where
  pub place : Place
  pub later : Place
  pub first : IsLast items p place
  pub second : IsLast items q later
  pub before : IsLater later place

-- the last of a pair stands before the kept item of this number, counted from 0: behind no more than so
-- many kept items
pub record IsBeforeKept (items : List Item) (pair : Pair) (number : ℕ) : Type 0 where
  pub place : Place
  pub stands : IsLast items pair place
  pub before : kept_before place.item items ≤ number

-- what the kept items of a sheet say
abbrev pub kept_content : List ℕ → List Item → List Content
kept_content source items = map (content source) (kept_items items)

-- One sheet keeps the other, each with its source (own): they have the same pairs, and the same kept items
-- in the same order, up to spelling. Of two pairs that weigh and whose selectors meet, the same one comes
-- last; and a pair comes last before the same ones of the kept items that it weighs with.
pub record Keeps (source : List ℕ) (items : List Item) (source' : List ℕ) (items' : List Item) : Type 0 where
  pub pairs : (p : Pair) → HasPair items p ↔ HasPair items' p
  pub kept : kept_content source items ≡ kept_content source' items'
  pub order : (p q : Pair) → Weigh p q → Meet p.selector q.selector → IsBefore items p q ↔ IsBefore items' p q
  pub kept_order : (p : Pair) (number : ℕ) (item : Item) → slice_get (kept_items items) number ≡ Some item → WeighsKept p item →
      IsBeforeKept items p number ↔ IsBeforeKept items' p number
