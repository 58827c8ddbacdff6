-- Rules by their order keys, and the pairs that they have.
use Rattle.std.proofs.Common.{◌≡◌, ◌≢◌, ◌↔◌, ◌⊎◌, inl, inr, ℕ, suc, List, [], ◌∷◌, Some, sym, ap, subst}
use Rattle.std.specs.Prelude.{slice_get}
use Rattle.std.specs.List.{Contains, flat_map}
use Rattle.css_model.specs.declared.sheet.Decl.{Decl}
use Rattle.css_model.specs.declared.sheet.DeclItem.{DeclItem}
use Rattle.css_model.specs.declared.sheet.Item.{Item}
use Rattle.css_model.specs.declared.sheet.Item.TheVariants.{Rule, KeptRule, KeptBlock}
use Rattle.css_model.specs.declared.sheet.SelItem.{SelItem}
use Rattle.css_model.specs.Documents.SelectorParts.{SelectorParts}
use Rattle.css_model.specs.Sheets.RuleParts.{RuleParts}
use Rattle.list_facts.proofs.Members.{Contains-cons_cases, Contains-nil}
use Rattle.rule_tables.specs.declared.entries.Entry.{Entry}
use Rattle.rule_tables.specs.Digests.{selector_digest, decl_digest}
use Rattle.rule_tables.specs.Entries.{entry}
use Rattle.rule_tables.specs.Pairs.{OrderKeyHasBoth}
use Rattle.rule_tables.specs.Tables.{Cover, OrderKeyed, TableParts, entries_by_decl, entries_by_selector, order_keyed, with_order_key}
use Rattle.rule_tables.proofs.EntrySets.{mapped, unmapped}
use Rattle.rule_tables.proofs.Standing.{in_flat}

-- ---- Where a rule with its order key stands

back_one : (x : Item) (m : ℕ) (items : List Item) (order_keys : List ℕ) (r : RuleParts) (order_key : ℕ) → Contains (order_keyed (x ∷ items) (m ∷ order_keys)) (with_order_key r order_key) →
    ((x ≡ Rule r) × (m ≡ order_key)) ⊎ Contains (order_keyed items order_keys) (with_order_key r order_key)
back_one (Rule q) m items order_keys r order_key h = elim (Contains-cons_cases (with_order_key q m) (order_keyed items order_keys) (with_order_key r order_key) h) [
  | inl e ↦ inl (ap (λ (y : OrderKeyed). Rule y.rule) e, ap (λ (y : OrderKeyed). y.order_key) e)
  | inr k ↦ inr k
]
back_one (KeptRule k) m items order_keys r order_key h = inr h
back_one (KeptBlock piece) m items order_keys r order_key h = inr h

abbrev pub StandsWith : List Item → List ℕ → RuleParts → ℕ → Type 0
StandsWith items order_keys r order_key = (n : ℕ) × (slice_get items n ≡ Some (Rule r)) × (slice_get order_keys n ≡ Some order_key)

pub stands_with : (items : List Item) (order_keys : List ℕ) (r : RuleParts) (order_key : ℕ) → Contains (order_keyed items order_keys) (with_order_key r order_key) → StandsWith items order_keys r order_key
stands_with [] order_keys r order_key h = absurd (Contains-nil (with_order_key r order_key) h)
stands_with (x ∷ items) [] r order_key h = absurd (Contains-nil (with_order_key r order_key) h)
stands_with (x ∷ items) (m ∷ order_keys) r order_key h = elim (back_one x m items order_keys r order_key h) [
  | inl k ↦ (0, ap (λ (y : Item). Some y) k.0, ap (λ (n : ℕ). Some n) k.1)
  | inr k ↦ (let s : StandsWith items order_keys r order_key = stands_with items order_keys r order_key k in (suc s.0, s.1, s.2))
]

-- ---- Whether another rule has a pair

module _ (rules : List OrderKeyed) (own : ℕ) (s : SelectorParts) (d : Decl) where
  abbrev pub IsOther : ℕ → Type 0
  IsOther order_key = (order_key ≢ own) × OrderKeyHasBoth rules order_key s d

  pub passed : (first : ℕ) (behind rest : List ℕ) → rest ≡ first ∷ behind → (IsOther first → ⊥) → (order_key : ℕ) → Contains rest order_key → IsOther order_key → Contains behind order_key
  passed first behind rest is failed order_key h other = elim (Contains-cons_cases first behind order_key (subst (λ (ls : List ℕ). Contains ls order_key) is h)) [
    | inl same ↦ absurd (failed (subst IsOther (sym same) other))
    | inr r ↦ r
  ]

  under_decl : (keys : List Entry) → ((e : Entry) → Contains (flat_map entries_by_decl rules) e → Contains keys e) → (order_key : ℕ) → OrderKeyHasBoth rules order_key s d → Contains keys (entry (decl_digest d) order_key)
  under_decl keys cover order_key (r, in_list, has) =
      let i : (y : DeclItem) × Contains r.decls y × (y.decl ≡ d) = unmapped (λ (y : DeclItem). y.decl) r.decls d has.1 in
      let e : Contains (entries_by_decl (with_order_key r order_key)) (entry (decl_digest i.0.decl) order_key) = mapped (λ (y : DeclItem). entry (decl_digest y.decl) order_key) r.decls i.0 i.1 in
      subst (λ (n : ℕ). Contains keys (entry n order_key)) (ap decl_digest i.2)
      (cover (entry (decl_digest i.0.decl) order_key) (in_flat entries_by_decl rules (with_order_key r order_key) (entry (decl_digest i.0.decl) order_key) in_list e))

  under_selector : (keys : List Entry) → ((e : Entry) → Contains (flat_map entries_by_selector rules) e → Contains keys e) → (order_key : ℕ) → OrderKeyHasBoth rules order_key s d → Contains keys (entry (selector_digest s) order_key)
  under_selector keys cover order_key (r, in_list, has) =
      let i : (y : SelItem) × Contains r.selectors y × (y.selector ≡ s) = unmapped (λ (y : SelItem). y.selector) r.selectors s has.0 in
      let e : Contains (entries_by_selector (with_order_key r order_key)) (entry (selector_digest i.0.selector) order_key) = mapped (λ (y : SelItem). entry (selector_digest y.selector) order_key) r.selectors i.0 i.1 in
      subst (λ (n : ℕ). Contains keys (entry n order_key)) (ap selector_digest i.2)
      (cover (entry (selector_digest i.0.selector) order_key) (in_flat entries_by_selector rules (with_order_key r order_key) (entry (selector_digest i.0.selector) order_key) in_list e))

  -- among the order keys that stand under the digest
  module _ (t : TableParts) (keys : List Entry) where
    pub listed_by_decl : keys ≡ t.decls → Cover t rules → (digest : ℕ) → digest ≡ decl_digest d → (order_keys : List ℕ) → ((order_key : ℕ) → Contains order_keys order_key ↔ Contains keys (entry digest order_key)) →
        (order_key : ℕ) → OrderKeyHasBoth rules order_key s d → Contains order_keys order_key
    listed_by_decl is cover digest same order_keys under order_key has =
        (under order_key).1 (subst (λ (n : ℕ). Contains keys (entry n order_key)) (sym same) (under_decl keys (λ e h. subst (λ (es : List Entry). Contains es e) (sym is) (cover.decls e h)) order_key has))

    pub listed_by_selector : keys ≡ t.selectors → Cover t rules → (digest : ℕ) → digest ≡ selector_digest s → (order_keys : List ℕ) → ((order_key : ℕ) → Contains order_keys order_key ↔ Contains keys (entry digest order_key)) →
        (order_key : ℕ) → OrderKeyHasBoth rules order_key s d → Contains order_keys order_key
    listed_by_selector is cover digest same order_keys under order_key has =
        (under order_key).1 (subst (λ (n : ℕ). Contains keys (entry n order_key)) (sym same) (under_selector keys (λ e h. subst (λ (es : List Entry). Contains es e) (sym is) (cover.selectors e h)) order_key has))
