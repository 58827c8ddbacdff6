-- What may be known of a rule while steps are taken: that no part of it can be cut, and that no other rule has one
-- of its selectors, or of its declarations (own).
use Rattle.std.specs.Prelude.{◌≡◌, ◌≢◌, ℕ, ◌<◌, List, Some, length, slice_get}
use Rattle.std.specs.List.{AllPairs, Contains}
use Rattle.css_model.specs.declared.sheet.Decl.{Decl}
use Rattle.css_model.specs.declared.sheet.Item.{Item}
use Rattle.css_model.specs.declared.sheet.Item.TheVariants.{Rule}
use Rattle.css_model.specs.Documents.SelectorParts.{SelectorParts}
use Rattle.css_model.specs.Sheets.RuleParts.{RuleParts}
use Rattle.css_model.specs.Sheets.StyleRule.{selectors_of}
use Rattle.pending_laws.specs.declared.way.Way.{Way}
use Rattle.pending_laws.specs.Ways.{IsMove}
use Rattle.order_laws.specs.Edits.{Edit, edited}
use Rattle.step_laws.specs.declared.step.Step.{Step}
use Rattle.step_laws.specs.Steps.{HasStep, IsStep, decls_of, first_item, last_item}
use Rattle.plan_laws.specs.Barrier.Renumbering.{IsOfTwo, Leaves, new_number}
use Rattle.plan_laws.specs.Barrier.SideBySide.{HasCome}

-- no part of the rule of this number can be cut
abbrev pub HasNoCut : List Item → ℕ → Type 0
HasNoCut items n = (k : Step) → (IsOfTwo k → ⊥) → first_item k ≡ n → HasStep items k → ⊥

-- the rule of this number has a selector and a declaration
abbrev pub HasParts : List Item → ℕ → Type 0
HasParts items n = (r : RuleParts) → slice_get items n ≡ Some (Rule r) → (0 < length r.selectors) × (0 < length r.decls)

-- no other rule has one of its selectors
abbrev pub HasOwnSelectors : List Item → ℕ → Type 0
HasOwnSelectors items n = (m : ℕ) (r q : RuleParts) (s : SelectorParts) → m ≢ n → slice_get items n ≡ Some (Rule r) → slice_get items m ≡ Some (Rule q) →
    Contains (selectors_of r) s → Contains (selectors_of q) s → ⊥

-- no other rule has one of its declarations
abbrev pub HasOwnDecls : List Item → ℕ → Type 0
HasOwnDecls items n = (m : ℕ) (r q : RuleParts) (d : Decl) → m ≢ n → slice_get items n ≡ Some (Rule r) → slice_get items m ≡ Some (Rule q) →
    Contains (decls_of r) d → Contains (decls_of q) d → ⊥

-- each part of the rule of this number is in it once, and no other rule has one of its selectors together with one of its declarations;
-- of a rule without selectors nothing is said of its declarations
pub record HasOwnPairs (items : List Item) (n : ℕ) : Type 0 where
  pub selectors_once : (r : RuleParts) → slice_get items n ≡ Some (Rule r) → AllPairs (λ s t. s ≢ t) (selectors_of r)
  pub decls_once : (r : RuleParts) (s : SelectorParts) → slice_get items n ≡ Some (Rule r) → Contains (selectors_of r) s → AllPairs (λ d e. d ≢ e) (decls_of r)
  pub own : (m : ℕ) (r q : RuleParts) (s : SelectorParts) (d : Decl) → m ≢ n → slice_get items n ≡ Some (Rule r) → slice_get items m ≡ Some (Rule q) →
      Contains (selectors_of r) s → Contains (decls_of r) d → Contains (selectors_of q) s → Contains (decls_of q) d → ⊥

-- A rule with pairs of its own has no cut, if it has a selector and a declaration.
abbrev pub OwnPairsHaveNoCut : Type 0
OwnPairsHaveNoCut = (items : List Item) (n : ℕ) → HasParts items n → HasOwnPairs items n → HasNoCut items n

-- The rules that a step makes of rules with pairs of their own have pairs of their own. So has a rule that the step leaves, if it had.
abbrev pub OwnPairsGoOn : Type 0
OwnPairsGoOn = (items : List Item) (j : Step) (d : Edit) → IsStep items j d → (HasOwnPairs items (first_item j) → HasOwnPairs items (last_item j) →
    (n : ℕ) → (HasCome d items n → ⊥) → HasOwnPairs (edited d items) n) × ((n : ℕ) → Leaves d n → n < length items → HasOwnPairs items n → HasOwnPairs (edited d items) (new_number d items n))

-- Each of these stays so of a rule that a step leaves.
abbrev pub NoCutComes : Type 0
NoCutComes = (items : List Item) (j : Step) (d : Edit) → IsStep items j d → (n : ℕ) → Leaves d n → n < length items → HasNoCut items n → HasNoCut (edited d items) (new_number d items n)

abbrev pub OwnPartsStay : Type 0
OwnPartsStay = (items : List Item) (j : Step) (d : Edit) → IsStep items j d → (n : ℕ) → Leaves d n → n < length items →
    (HasOwnSelectors items n → HasOwnSelectors (edited d items) (new_number d items n))
    × (HasOwnDecls items n → HasOwnDecls (edited d items) (new_number d items n))

-- And what is so of both rules of a join is so of the rule that it makes, the only one that it did not leave.
abbrev pub JoinedHasNoCut : Type 0
JoinedHasNoCut = (items : List Item) (j : Step) (d : Edit) → IsStep items j d → (way : Way) → IsMove way j → (n : ℕ) → (HasCome d items n → ⊥) →
    HasNoCut items (first_item j) → HasNoCut items (last_item j) → HasNoCut (edited d items) n

abbrev pub JoinedHasOwnParts : Type 0
JoinedHasOwnParts = (items : List Item) (j : Step) (d : Edit) → IsStep items j d → (way : Way) → IsMove way j → (n : ℕ) → (HasCome d items n → ⊥) →
    (HasOwnSelectors items (first_item j) → HasOwnSelectors items (last_item j) → HasOwnSelectors (edited d items) n)
    × (HasOwnDecls items (first_item j) → HasOwnDecls items (last_item j) → HasOwnDecls (edited d items) n)
