-- Tables of the rules of a sheet by their parts (own).
use Rattle.std.specs.Prelude.{◌≡◌, ◌≢◌, ◌↔◌, ◌⊎◌, ◌+◌, Bool, true, cond, ℕ, List, [], ◌∷◌, map}
use Rattle.std.specs.List.{Contains, flat_map}
use Rattle.std.specs.List.Sorted.{IsStrictlyIncreasing}
use Rattle.css_model.specs.declared.sheet.Decl.{Decl}
use Rattle.css_model.specs.declared.sheet.DeclItem.{DeclItem}
use Rattle.css_model.specs.declared.sheet.Item.{Item}
use Rattle.css_model.specs.declared.sheet.Item.TheVariants.{Rule, KeptRule, KeptBlock}
use Rattle.css_model.specs.declared.sheet.SelItem.{SelItem}
use Rattle.css_model.specs.Documents.SelectorParts.{SelectorParts}
use Rattle.css_model.specs.Sheets.RuleParts.{RuleParts}
use Rattle.css_model.specs.Sheets.StyleRule.{HaveSameSelectors, selectors_of}
use Rattle.rule_tables.specs.declared.entries.Entry.{Entry}
use Rattle.rule_tables.specs.Ahead.{AllAscend, IsAhead, Reached, Reaches, total_at}
use Rattle.rule_tables.specs.Digests.{selector_digest, decl_digest}
use Rattle.step_laws.specs.Steps.{decls_of}
use Rattle.rule_tables.specs.Entries.{Puts, PutsSome, TakesOut, decl_entries, entry, selector_entries}

-- the entries of both tables, in order
pub record TableParts : Type 0 where
  pub selectors : List Entry
  pub decls : List Entry

-- a rule, and its order key
pub record OrderKeyed : Type 0 where
  pub rule : RuleParts
  pub order_key : ℕ

abbrev pub with_order_key : RuleParts → ℕ → OrderKeyed
with_order_key r order_key = record { rule = r; order_key = order_key }

-- the rules among items, with the order keys of these items
abbrev pub order_keyed : List Item → List ℕ → List OrderKeyed
order_keyed [] order_keys = []
order_keyed (x ∷ items) [] = []
order_keyed (Rule r ∷ items) (order_key ∷ order_keys) = with_order_key r order_key ∷ order_keyed items order_keys
order_keyed (KeptRule k ∷ items) (order_key ∷ order_keys) = order_keyed items order_keys
order_keyed (KeptBlock piece ∷ items) (order_key ∷ order_keys) = order_keyed items order_keys

-- the entries of a rule by its selectors, and by its declarations
abbrev pub entries_by_selector : OrderKeyed → List Entry
entries_by_selector x = selector_entries x.order_key x.rule.selectors

abbrev pub entries_by_decl : OrderKeyed → List Entry
entries_by_decl x = decl_entries x.order_key x.rule.decls

-- The tables stand for rules: an order key stands under a digest exactly where a rule with this order key has a part with
-- this digest.
pub record StandFor (tables : TableParts) (rules : List OrderKeyed) : Type 0 where
  pub selectors : (e : Entry) → Contains tables.selectors e ↔ Contains (flat_map entries_by_selector rules) e
  pub decls : (e : Entry) → Contains tables.decls e ↔ Contains (flat_map entries_by_decl rules) e

-- The tables cover rules: they have the entries of each, and may have others.
pub record Cover (tables : TableParts) (rules : List OrderKeyed) : Type 0 where
  pub selectors : (e : Entry) → Contains (flat_map entries_by_selector rules) e → Contains tables.selectors e
  pub decls : (e : Entry) → Contains (flat_map entries_by_decl rules) e → Contains tables.decls e

-- none of these rules has the order key
abbrev pub HaveOtherOrderKeys : List OrderKeyed → ℕ → Type 0
HaveOtherOrderKeys rules order_key = (x : OrderKeyed) → Contains rules x → x.order_key ≢ order_key

-- ---- Partners

-- Two rules can be partners in a step: they have the same selectors, some at least, or a declaration in common.
pub data CanBePartners (r q : RuleParts) : Type 0 where
  by_selectors : (s : SelectorParts) → Contains (selectors_of r) s → HaveSameSelectors r q → CanBePartners r q
  by_decl : (d : Decl) → Contains (decls_of r) d → Contains (decls_of q) d → CanBePartners r q

abbrev pub selector_digests : List SelItem → List ℕ
selector_digests selectors = map (λ s. selector_digest s.selector) selectors

abbrev pub decl_digests : List DeclItem → List ℕ
decl_digests decls = map (λ d. decl_digest d.decl) decls

-- an order key stands under one of these digests
abbrev pub IsUnderOne : List Entry → List ℕ → ℕ → Type 0
IsUnderOne entries digests order_key = (digest : ℕ) × Contains digests digest × Contains entries (entry digest order_key)

-- an order key stands under the digest of a part of a rule
abbrev pub IsUnderPart : TableParts → RuleParts → ℕ → Type 0
IsUnderPart tables r order_key = IsUnderOne tables.selectors (selector_digests r.selectors) order_key ⊎ IsUnderOne tables.decls (decl_digests r.decls) order_key

-- ---- While partners are found

-- an order key stands under each of these digests, of which there is one
abbrev pub IsUnderEach : List Entry → List ℕ → ℕ → Type 0
IsUnderEach entries digests order_key = ((digest : ℕ) × Contains digests digest) × ((digest : ℕ) → Contains digests digest → Contains entries (entry digest order_key))

-- the new set of order keys has the old ones, those that stand under each of these digests, and none that stands under none
pub record PutsShared (entries : List Entry) (digests old new : List ℕ) : Type 0 where
  pub keeps : (order_key : ℕ) → Contains old order_key → Contains new order_key
  pub shared : (order_key : ℕ) → IsUnderEach entries digests order_key → Contains new order_key
  pub only : (order_key : ℕ) → Contains new order_key → Contains old order_key ⊎ IsUnderOne entries digests order_key

-- the new set of order keys has the old ones and those that stand under one of these digests
abbrev pub PutsUnderOne : List Entry → List ℕ → List ℕ → List ℕ → Type 0
PutsUnderOne entries digests old new = (order_key : ℕ) → Contains new order_key ↔ (Contains old order_key ⊎ IsUnderOne entries digests order_key)

-- how many of these declarations pass a test, and what they weigh
abbrev pub count_of : (Decl → Bool) → List DeclItem → ℕ
count_of passes [] = 0
count_of passes (d ∷ decls) = cond (passes d.decl) 1 0 + count_of passes decls

abbrev pub weight_of : (Decl → Bool) → List DeclItem → List ℕ → ℕ
weight_of passes [] weights = 0
weight_of passes (d ∷ decls) [] = 0
weight_of passes (d ∷ decls) (w ∷ weights) = cond (passes d.decl) w 0 + weight_of passes decls weights

-- the entries have this order key under the digest of each declaration that passes a test
abbrev pub AreEntered : List Entry → ℕ → (Decl → Bool) → Type 0
AreEntered entries order_key passes = (d : Decl) → passes d ≡ true → Contains entries (entry (decl_digest d) order_key)

abbrev pub sum_of : List ℕ → ℕ
sum_of [] = 0
sum_of (w ∷ weights) = w + sum_of weights

-- a list has the order keys under the digest of a declaration, which weighs so much
pub record IsListUnder (entries : List Entry) (decl : Decl) (weight : ℕ) (list : Reached) : Type 0 where
  pub under : (k : ℕ) → Contains list.order_keys k ↔ Contains entries (entry (decl_digest decl) k)
  pub ascends : IsStrictlyIncreasing list.order_keys
  pub common : list.common ≡ record { count = 1; weight = weight }

-- Lists have the order keys under the digests of these declarations, which weigh so much, and say at least of which declarations
-- they are.
pub record AreListsUnder (entries : List Entry) (decls : List DeclItem) (weights : List ℕ) (lists : List Reached) : Type 0 where
  pub under : (k : ℕ) → IsAhead lists k ↔ IsUnderOne entries (decl_digests decls) k
  pub ascend : AllAscend lists
  pub count : (k : ℕ) (passes : Decl → Bool) → AreEntered entries k passes → Reaches (total_at (λ c. c.count) lists k) (count_of passes decls)
  pub weight : (k : ℕ) (passes : Decl → Bool) → AreEntered entries k passes → Reaches (total_at (λ c. c.weight) lists k) (weight_of passes decls weights)

-- ---- Changes of both tables

-- the new tables have the old entries and those of these rules
pub record PutsRules (old : TableParts) (rules : List OrderKeyed) (new : TableParts) : Type 0 where
  pub selectors : Puts old.selectors (flat_map entries_by_selector rules) new.selectors
  pub decls : Puts old.decls (flat_map entries_by_decl rules) new.decls

-- and those of one rule
pub record PutsRule (old : TableParts) (r : RuleParts) (order_key : ℕ) (new : TableParts) : Type 0 where
  pub selectors : Puts old.selectors (selector_entries order_key r.selectors) new.selectors
  pub decls : Puts old.decls (decl_entries order_key r.decls) new.decls

-- some of one rule
pub record PutsSomeOf (old : TableParts) (r : RuleParts) (order_key : ℕ) (new : TableParts) : Type 0 where
  pub selectors : PutsSome old.selectors (selector_entries order_key r.selectors) new.selectors
  pub decls : PutsSome old.decls (decl_entries order_key r.decls) new.decls

-- the new tables have the old entries but those of this rule with this order key
pub record TakesRule (old : TableParts) (r : RuleParts) (order_key : ℕ) (new : TableParts) : Type 0 where
  pub selectors : TakesOut old.selectors (selector_entries order_key r.selectors) new.selectors
  pub decls : TakesOut old.decls (decl_entries order_key r.decls) new.decls
