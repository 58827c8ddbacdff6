-- The entries of the tables (own): for each part of a rule its digest, with the order key of the rule.
use Rattle.std.specs.Prelude.{◌↔◌, ◌⊎◌, ℕ, List, map}
use Rattle.std.specs.List.{Contains, flat_map}
use Rattle.css_model.specs.declared.sheet.DeclItem.{DeclItem}
use Rattle.css_model.specs.declared.sheet.SelItem.{SelItem}
use Rattle.rule_tables.specs.declared.entries.Entry.{Entry}
use Rattle.rule_tables.specs.Digests.{selector_digest, decl_digest}

abbrev pub entry : ℕ → ℕ → Entry
entry digest order_key = record { digest = digest; order_key = order_key }

abbrev pub selector_entries : ℕ → List SelItem → List Entry
selector_entries order_key selectors = map (λ s. entry (selector_digest s.selector) order_key) selectors

abbrev pub decl_entries : ℕ → List DeclItem → List Entry
decl_entries order_key decls = map (λ d. entry (decl_digest d.decl) order_key) decls

-- the entries of lists of order keys, each with the digest under which it stands
abbrev pub entries_of : List (ℕ × List ℕ) → List Entry
entries_of lists = flat_map (λ (under : ℕ × List ℕ). map (entry under.0) under.1) lists

-- ---- Changes of a set, by the lists of what it has

-- two lists have the same elements
abbrev pub HaveSameMembers : {X : Type 0} → List X → List X → Type 0
HaveSameMembers {X} xs ys = (x : X) → Contains xs x ↔ Contains ys x

-- the new set has the old elements and these
abbrev pub Puts : {X : Type 0} → List X → List X → List X → Type 0
Puts {X} old more new = (x : X) → Contains new x ↔ (Contains old x ⊎ Contains more x)

-- the new set has the old elements, and else none but these
abbrev pub PutsSome : {X : Type 0} → List X → List X → List X → Type 0
PutsSome {X} old more new = (x : X) → (Contains old x → Contains new x) × (Contains new x → Contains old x ⊎ Contains more x)

-- the new set has the old elements but these
abbrev pub TakesOut : {X : Type 0} → List X → List X → List X → Type 0
TakesOut {X} old gone new = (x : X) → Contains new x ↔ (Contains old x × ¬ Contains gone x)

-- the new set of order keys has the old ones and those that stand under a digest
abbrev pub PutsUnder : List Entry → ℕ → List ℕ → List ℕ → Type 0
PutsUnder entries digest old new = (order_key : ℕ) → Contains new order_key ↔ (Contains old order_key ⊎ Contains entries (entry digest order_key))
