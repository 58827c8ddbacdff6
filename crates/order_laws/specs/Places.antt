-- Where the pairs of a sheet stand, as lists.
use Rattle.std.specs.Prelude.{◌≡◌, ◌≤◌, ◌↔◌, ℕ, suc, Bool, true, not, if◌then◌else◌, IsTrue, List, [], ◌∷◌, ◌++◌, map, Some, slice_get}
use Rattle.std.specs.List.{Contains, filter, flat_map, list_any}
use Rattle.css_model.specs.declared.sheet.Decl.{Decl}
use Rattle.css_model.specs.declared.sheet.DeclItem.{DeclItem}
use Rattle.css_model.specs.declared.sheet.Item.{Item}
use Rattle.css_model.specs.declared.sheet.Item.TheVariants.{Rule, KeptRule, KeptBlock}
use Rattle.css_model.specs.declared.sheet.SelItem.{SelItem}
use Rattle.css_model.specs.Cascade.Winner.{Place, IsLater}
use Rattle.css_model.specs.Cascade.Order.{Pair, IsPairAt}
use Rattle.css_model.specs.Sheets.RuleParts.{RuleParts}
use Rattle.css_model.specs.Documents.SelectorParts.{SelectorParts}
use Rattle.css_model.specs.Sheets.StyleRule.{selectors_of}
use Rattle.order_laws.specs.Members.{same_selector, same_pair, has_decl}

-- The place of a pair: its item, and in the item its selector and its declaration, each counted from 0.
pub record PairPlace : Type 0 where
  pub item : ℕ
  pub selector : ℕ
  pub decl : ℕ

-- a pair, and where it stands
pub record PlacedPair : Type 0 where
  pub pair : Pair
  pub place : PairPlace

-- ---- In words

-- the place by which the order of appearance goes
abbrev pub place_of : PairPlace → Place
place_of x = record { item = x.item; position = x.decl }

-- A pair stands at its last place in the items that count, by their numbers. Of equal selectors of the
-- rule it is the first.
pub record StandsLast (counts : ℕ → Bool) (items : List Item) (x : PlacedPair) : Type 0 where
  pub rule : RuleParts
  pub item : DeclItem
  pub rule_at : slice_get items x.place.item ≡ Some (Rule rule)
  pub counted : IsTrue (counts x.place.item)
  pub selector_at : slice_get (selectors_of rule) x.place.selector ≡ Some x.pair.selector
  pub selector_first : (i : ℕ) → slice_get (selectors_of rule) i ≡ Some x.pair.selector → x.place.selector ≤ i
  pub decl_at : slice_get rule.decls x.place.decl ≡ Some item
  pub decl_is : item.decl ≡ x.pair.decl
  pub last : (other : Place) → IsPairAt items x.pair other → IsTrue (counts other.item) →
      IsLater other (place_of x.place) → ⊥

-- ---- As a list

-- the selectors of a rule with their numbers, the first of which is given: of equal ones the first
abbrev pub first_selectors : ℕ → List SelItem → List (ℕ × SelectorParts)
first_selectors n [] = []
first_selectors n (s ∷ selectors) =
    (n, s.selector) ∷ filter (λ t. not (same_selector t.1 s.selector)) (first_selectors (suc n) selectors)

-- the declarations of a rule with their numbers, the first of which is given: of equal ones the last
abbrev pub last_decls : ℕ → List DeclItem → List (ℕ × Decl)
last_decls n [] = []
last_decls n (d ∷ decls) =
    if has_decl decls d.decl then last_decls (suc n) decls else (n, d.decl) ∷ last_decls (suc n) decls

-- a selector and a declaration of the item of this number
abbrev pub placed : ℕ → ℕ × SelectorParts → ℕ × Decl → PlacedPair
placed n s d = record {
  pair = record { selector = s.1; decl = d.1 };
  place = record { item = n; selector = s.0; decl = d.0 };
}

-- the pairs of the item of this number, each once
abbrev pub pairs_of : ℕ → Item → List PlacedPair
pairs_of n (Rule r) = flat_map (λ s. map (placed n s) (last_decls 0 r.decls)) (first_selectors 0 r.selectors)
pairs_of n (KeptRule kept) = []
pairs_of n (KeptBlock piece) = []

-- whether a pair is among these
abbrev pub has_pair : List PlacedPair → Pair → Bool
has_pair pairs p = list_any (λ q. same_pair q.pair p) pairs

-- The pairs of the items that count, each once: where it stands last in these (by the order of
-- appearance, CSS Cascading 3, section 6). The first item has this number.
abbrev pub last_pairs_from : (ℕ → Bool) → ℕ → List Item → List PlacedPair
last_pairs_from counts n [] = []
last_pairs_from counts n (item ∷ items) =
    let later = last_pairs_from counts (suc n) items in
    if counts n then filter (λ p. not (has_pair later p.pair)) (pairs_of n item) ++ later else later

-- the pairs of a sheet, each where it stands last
abbrev pub last_pairs : List Item → List PlacedPair
last_pairs items = last_pairs_from (λ n. true) 0 items

-- the list has exactly the pairs that stand last
abbrev pub ListedStandsLast : Type 0
ListedStandsLast = (counts : ℕ → Bool) (items : List Item) (x : PlacedPair) →
    Contains (last_pairs_from counts 0 items) x ↔ StandsLast counts items x
