-- Which declarations of a sheet are repeated: each of their pairs comes again later (own).
use Rattle.std.specs.Prelude.{◌≡◌, ◌↔◌, ℕ, zero, suc, ◌==◌, Bool, false, not, ◌&&◌, IsTrue, List, [], ◌∷◌, Option, Some, None, slice_get, find, remove}
use Rattle.std.specs.List.{Contains, list_all}
use Rattle.css_model.specs.declared.sheet.Decl.{Decl}
use Rattle.css_model.specs.declared.sheet.DeclItem.{DeclItem}
use Rattle.css_model.specs.declared.sheet.Item.{Item}
use Rattle.css_model.specs.declared.sheet.Item.TheVariants.{Rule, KeptRule, KeptBlock}
use Rattle.css_model.specs.declared.sheet.SelItem.{SelItem}
use Rattle.css_model.specs.Cascade.Order.{Pair, IsLast, IsPairAt}
use Rattle.css_model.specs.Cascade.Winner.{IsLater, Place}
use Rattle.css_model.specs.Documents.SelectorParts.{SelectorParts}
use Rattle.css_model.specs.Sheets.RuleParts.{RuleParts}
use Rattle.css_model.specs.Sheets.StyleRule.{selectors_of}
use Rattle.order_laws.specs.Members.{same_pair}
use Rattle.order_laws.specs.Places.{PlacedPair, last_pairs}

-- ---- As a test

-- a selector and a declaration (own)
abbrev pub pair_of : SelectorParts → Decl → Pair
pair_of s d = record { selector = s; decl = d }

-- the last place of a pair among these last places, if it has one (own)
abbrev pub last_in : List PlacedPair → Pair → Option PlacedPair
last_in lasts p = find (λ q. same_pair q.pair p) lasts

-- whether a place that was found is this declaration of this item, by their numbers (own)
abbrev pub is_here : (item decl : ℕ) → Option PlacedPair → Bool
is_here item decl None = false
is_here item decl (Some x) = x.place.item == item && x.place.decl == decl

-- Whether a declaration of a rule is repeated (own): for each selector of the rule the last place of the pair, by the
-- order of appearance (CSS Cascading 3, section 6), is another one than this, the declaration of this number in the
-- item of this number.
abbrev pub is_repeated : List PlacedPair → (item : ℕ) → List SelItem → (number : ℕ) → Decl → Bool
is_repeated lasts item selectors number d = list_all (λ s. not (is_here item number (last_in lasts (pair_of s.selector d)))) selectors

-- ---- In words

-- a pair has a place that is later than this one (CSS Cascading 3, section 6)
abbrev pub ComesLater : List Item → Pair → Place → Type 0
ComesLater items p place = (later : Place) × IsPairAt items p later × IsLater later place

-- A declaration of a rule is repeated exactly where the pair of each of the rule's selectors and the declaration has a
-- later place too.
abbrev pub RepeatingIsDecided : Type 0
RepeatingIsDecided = (items : List Item) (place : Place) (rule : RuleParts) (d : DeclItem) →
    slice_get items place.item ≡ Some (Rule rule) → slice_get rule.decls place.position ≡ Some d →
    IsTrue (is_repeated (last_pairs items) place.item rule.selectors place.position d.decl)
    ↔ ((s : SelectorParts) → Contains (selectors_of rule) s → ComesLater items (pair_of s d.decl) place)

-- ---- Without a declaration

-- an item without its declaration of this number, where it is a rule (own)
abbrev pub decl_removed : ℕ → Item → Item
decl_removed k (Rule r) = Rule (record { selectors = r.selectors; decls = remove r.decls k })
decl_removed k (KeptRule kept) = KeptRule kept
decl_removed k (KeptBlock piece) = KeptBlock piece

-- items without the declaration of the second number in the item of the first one (own)
abbrev pub without_decl : List Item → (item decl : ℕ) → List Item
without_decl [] i k = []
without_decl (item ∷ items) zero k = decl_removed k item ∷ items
without_decl (item ∷ items) (suc i) k = item ∷ without_decl items i k

-- A declaration that is not repeated is at the last place of one of its pairs. Without it this pair is missing, or each
-- place that it has is an earlier one.
abbrev pub OthersAreLast : Type 0
OthersAreLast = (items : List Item) (place : Place) (rule : RuleParts) (d : DeclItem) →
    slice_get items place.item ≡ Some (Rule rule) → slice_get rule.decls place.position ≡ Some d →
    is_repeated (last_pairs items) place.item rule.selectors place.position d.decl ≡ false →
    (s : SelectorParts) × Contains (selectors_of rule) s × IsLast items (pair_of s d.decl) place
    × ((other : Place) → IsPairAt (without_decl items place.item place.position) (pair_of s d.decl) other → IsLater place other)
