-- A sheet whose items have order keys that stay while items come and go.
use Rattle.std.specs.Prelude.{◌≡◌, ◌≢◌, ◌↔◌, ◌⊎◌, ℕ, ◌<◌, List, map, Some, slice_get}
use Rattle.std.specs.List.{AllPairs, Contains}
use Rattle.css_model.specs.declared.sheet.DeclItem.{DeclItem}
use Rattle.css_model.specs.declared.sheet.Item.{Item}
use Rattle.css_model.specs.declared.sheet.Item.TheVariants.{Rule}
use Rattle.css_model.specs.Cascade.Order.{Pair, IsBefore}
use Rattle.css_model.specs.Sheets.RuleParts.{RuleParts}
use Rattle.css_model.specs.Sheets.StyleRule.{selectors_of}
use Rattle.order_laws.specs.Reversing.{Differ}

-- the items without their order keys
abbrev pub without_order_keys : List (ℕ × Item) → List Item
without_order_keys order_keyed = map (λ e. e.1) order_keyed

-- each item has a greater order key than those before it
abbrev pub Ascends : List (ℕ × Item) → Type 0
Ascends order_keyed = AllPairs (λ (e f : ℕ × Item). e.0 < f.0) order_keyed

-- The key of a declaration of a rule: the order key of its item, and its number in the rule.
pub record Key : Type 0 where
  pub order_key : ℕ
  pub decl : ℕ

-- one key is below another
abbrev pub IsBelow : Key → Key → Type 0
IsBelow x y = (x.order_key < y.order_key) ⊎ ((x.order_key ≡ y.order_key) × (x.decl < y.decl))

-- a pair stands at a key
pub record StandsAt (order_keyed : List (ℕ × Item)) (p : Pair) (key : Key) : Type 0 where
  pub index : ℕ
  pub rule : RuleParts
  pub decl : DeclItem
  pub rule_at : slice_get order_keyed index ≡ Some (key.order_key, Rule rule)
  pub selector_in : Contains (selectors_of rule) p.selector
  pub decl_at : slice_get rule.decls key.decl ≡ Some decl
  pub decl_is : decl.decl ≡ p.decl

-- and it is the last one at which it stands
pub record IsLastKey (order_keyed : List (ℕ × Item)) (p : Pair) (key : Key) : Type 0 where
  pub stands : StandsAt order_keyed p key
  pub last : (other : Key) → StandsAt order_keyed p other → IsBelow key other → ⊥

-- the last key of one pair is below that of another
pub record IsKeyedBefore (order_keyed : List (ℕ × Item)) (p q : Pair) : Type 0 where
  pub key : Key
  pub later : Key
  pub first : IsLastKey order_keyed p key
  pub second : IsLastKey order_keyed q later
  pub before : IsBelow key later

-- the order by keys is that of the sheet
abbrev pub KeysAreOrder : Type 0
KeysAreOrder = (order_keyed : List (ℕ × Item)) → Ascends order_keyed → (p q : Pair) → IsBefore (without_order_keys order_keyed) p q ↔ IsKeyedBefore order_keyed p q

-- a key is between two others
abbrev pub IsBetween : Key → Key → Key → Type 0
IsBetween low x high = IsBelow low x × IsBelow x high

-- A pair whose last key stays is reversed with one whose last key changes exactly where its key is between
-- the old and the new one.
abbrev pub ReversedWhereBetween : Type 0
ReversedWhereBetween = (old new : List (ℕ × Item)) → Ascends old → Ascends new → (p q : Pair) → p.decl ≢ q.decl → (from to stays : Key) →
    IsLastKey old p from → IsLastKey new p to → IsLastKey old q stays → IsLastKey new q stays →
    Differ (IsBefore (without_order_keys old) p q) (IsBefore (without_order_keys new) p q) ↔ (IsBetween from stays to ⊎ IsBetween to stays from)
