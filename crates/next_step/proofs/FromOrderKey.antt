-- The rules of an indexed sheet from an order key on.
use Rattle.std.proofs.Common.{◌≡◌, ◌↔◌, ℕ, ◌<◌, ◌≤◌, Bool, true, false, not, List, refl, sym, ap, ◌∙◌, true≢false, arith}
use Rattle.std.specs.Prelude.{nat_lt}
use Rattle.std.specs.List.{Contains, flat_map}
use Rattle.std.proofs.lemmas.Bool.{lt-ltb, ltb-true}
use Rattle.css_model.specs.declared.sheet.Decl.{Decl}
use Rattle.css_model.specs.Documents.SelectorParts.{SelectorParts}
use Rattle.list_facts.proofs.Members.{Contains-filter, Contains-filtered}
use Rattle.order_laws.proofs.ForCallers.{flat_map_has, flat_map_from}
use Rattle.rule_tables.specs.declared.entries.Entry.{Entry}
use Rattle.rule_tables.specs.Pairs.{OrderKeyHasBoth}
use Rattle.rule_tables.specs.Tables.{Cover, OrderKeyed, TableParts, entries_by_decl, entries_by_selector, with_order_key}
use Rattle.next_step.specs.Marked.{rules_from}

abbrev reaches : ℕ → OrderKeyed → Bool
reaches from x = not (nat_lt x.order_key from)

less_is : (a b : ℕ) → a < b → not (nat_lt a b) ≡ false
less_is a b less = ap not (lt-ltb a b less)

not_less_is : (a b : ℕ) → b ≤ a → not (nat_lt a b) ≡ true
not_less_is a b most = which (nat_lt a b) refl
  where
    which : (t : Bool) → nat_lt a b ≡ t → not (nat_lt a b) ≡ true
    which false is = ap not is
    which true is = absurd (let less : a < b = ltb-true a b is in omega (arith, most, less))

module _ (from : ℕ) (rules : List OrderKeyed) where
  -- the rule with an order key below it is none of them
  pub not_before : (order_key : ℕ) (s : SelectorParts) (d : Decl) → order_key < from → OrderKeyHasBoth (rules_from from rules) order_key s d → ⊥
  not_before order_key s d less (r, among, has) =
      true≢false (sym (Contains-filter (reaches from) rules (with_order_key r order_key) among).1 ∙ less_is order_key from less)

  -- and any other one is
  pub has_from : (order_key : ℕ) (s : SelectorParts) (d : Decl) → from ≤ order_key → OrderKeyHasBoth rules order_key s d ↔ OrderKeyHasBoth (rules_from from rules) order_key s d
  has_from order_key s d most = (
    λ (r, among, has). (r, Contains-filtered (reaches from) rules (with_order_key r order_key) among (not_less_is order_key from most), has),
    λ (r, among, has). (r, (Contains-filter (reaches from) rules (with_order_key r order_key) among).0, has),
  )

  entry_from : (entries : OrderKeyed → List Entry) (e : Entry) → Contains (flat_map entries (rules_from from rules)) e → Contains (flat_map entries rules) e
  entry_from entries e among =
      let w : (x : OrderKeyed) × Contains (rules_from from rules) x × Contains (entries x) e = flat_map_from entries (rules_from from rules) e among in
      flat_map_has entries rules w.0 e (Contains-filter (reaches from) rules w.0 w.1).0 w.2

  -- what covers all rules covers them
  pub cover_from : (tables : TableParts) → Cover tables rules → Cover tables (rules_from from rules)
  cover_from tables all = record {
    selectors = λ e among. all.selectors e (entry_from entries_by_selector e among);
    decls = λ e among. all.decls e (entry_from entries_by_decl e among);
  }
