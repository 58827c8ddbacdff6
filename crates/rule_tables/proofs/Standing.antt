-- Tables while rules come.
use Rattle.std.proofs.Common.{◌≡◌, ◌↔◌, ◌⊎◌, inl, inr, ℕ, List, [], ◌∷◌, ◌++◌, map, refl, sym, ap, subst, ◌∙◌, Result, Ok, Err, OnErr, OnOk}
use Rattle.std.specs.List.{Contains, flat_map}
use Rattle.std.proofs.lemmas.List.Elements.{Contains-append_cases, Contains-append_left, Contains-append_right}
use Rattle.css_model.specs.declared.sheet.DeclItem.{DeclItem}
use Rattle.css_model.specs.declared.sheet.Item.{Item}
use Rattle.css_model.specs.declared.sheet.Item.TheVariants.{Rule, KeptRule, KeptBlock}
use Rattle.css_model.specs.declared.sheet.SelItem.{SelItem}
use Rattle.css_model.specs.Sheets.RuleParts.{RuleParts}
use Rattle.list_facts.proofs.Members.{Contains-cons_cases, Contains-here, Contains-nil, Contains-there}
use Rattle.rule_tables.specs.declared.entries.Entry.{Entry}
use Rattle.rule_tables.specs.Digests.{selector_digest, decl_digest}
use Rattle.rule_tables.specs.Entries.{Puts, PutsSome, TakesOut, decl_entries, entry, selector_entries}
use Rattle.rule_tables.specs.Tables.{Cover, HaveOtherOrderKeys, OrderKeyed, PutsRule, PutsRules, PutsSomeOf, StandFor, TableParts, TakesRule, entries_by_decl, entries_by_selector, order_keyed, with_order_key}
use Rattle.rule_tables.proofs.EntrySets.{unmapped}

-- ---- Lists of entries, by the rules that they come from

module _ {S X : Type 0} (f : S → List X) where
  pub in_flat : (xs : List S) (x : S) (e : X) → Contains xs x → Contains (f x) e → Contains (flat_map f xs) e
  in_flat [] x e h k = absurd (Contains-nil x h)
  in_flat (y ∷ ys) x e h k = elim (Contains-cons_cases y ys x h) [
    | inl is ↦ Contains-append_left (f y) (flat_map f ys) e (subst (λ (z : S). Contains (f z) e) (sym is) k)
    | inr r ↦ Contains-append_right (f y) (flat_map f ys) e (in_flat ys x e r k)
  ]

  pub of_flat : (xs : List S) (e : X) → Contains (flat_map f xs) e → (x : S) × Contains xs x × Contains (f x) e
  of_flat [] e h = absurd (Contains-nil e h)
  of_flat (y ∷ ys) e h = elim (Contains-append_cases (f y) (flat_map f ys) e h) [
    | inl l ↦ (y, Contains-here y ys, l)
    | inr r ↦ (let k : (x : S) × Contains ys x × Contains (f x) e = of_flat ys e r in (k.0, Contains-there y ys k.0 k.1, k.2))
  ]

-- one of two kinds of entries
module _ (f : OrderKeyed → List Entry) where
  more : (old new : List Entry) (x : OrderKeyed) (rules : List OrderKeyed) → Puts old (f x) new → ((e : Entry) → Contains (flat_map f rules) e → Contains old e) →
      (e : Entry) → Contains (flat_map f (x ∷ rules)) e → Contains new e
  more old new x rules puts covers e h = elim (Contains-append_cases (f x) (flat_map f rules) e h) [ inl l ↦ (puts e).1 (inr l) | inr r ↦ (puts e).1 (inl (covers e r)) ]

  kept : (old new : List Entry) (rules : List OrderKeyed) → ((e : Entry) → Contains old e → Contains new e) → ((e : Entry) → Contains (flat_map f rules) e → Contains old e) →
      (e : Entry) → Contains (flat_map f rules) e → Contains new e
  kept old new rules stay covers e h = stay e (covers e h)

pub inserted : (old new : TableParts) (r : RuleParts) (order_key : ℕ) → PutsRule old r order_key new → (rules : List OrderKeyed) → Cover old rules → Cover new (with_order_key r order_key ∷ rules)
inserted old new r order_key puts rules cover = record {
  selectors = more entries_by_selector old.selectors new.selectors (with_order_key r order_key) rules puts.selectors cover.selectors;
  decls = more entries_by_decl old.decls new.decls (with_order_key r order_key) rules puts.decls cover.decls;
}

pub still_all : (old new : TableParts) (r : RuleParts) (order_key : ℕ) → PutsRule old r order_key new → (rules : List OrderKeyed) → Cover old rules → Cover new rules
still_all old new r order_key puts rules cover = record {
  selectors = kept entries_by_selector old.selectors new.selectors rules (λ e h. (puts.selectors e).1 (inl h)) cover.selectors;
  decls = kept entries_by_decl old.decls new.decls rules (λ e h. (puts.decls e).1 (inl h)) cover.decls;
}

pub still_some : (old new : TableParts) (r : RuleParts) (order_key : ℕ) → PutsSomeOf old r order_key new → (rules : List OrderKeyed) → Cover old rules → Cover new rules
still_some old new r order_key puts rules cover = record {
  selectors = kept entries_by_selector old.selectors new.selectors rules (λ e h. (puts.selectors e).0 h) cover.selectors;
  decls = kept entries_by_decl old.decls new.decls rules (λ e h. (puts.decls e).0 h) cover.decls;
}

-- a rule with another order key has other entries
module _ {S : Type 0} (digest : S → ℕ) where
  order_key_of : (order_key : ℕ) (parts : List S) (e : Entry) → Contains (map (λ s. entry (digest s) order_key) parts) e → e.order_key ≡ order_key
  order_key_of order_key parts e h = let w : (s : S) × Contains parts s × (entry (digest s) order_key ≡ e) = unmapped (λ s. entry (digest s) order_key) parts e h in sym (ap (λ (x : Entry). x.order_key) w.2)

of_others : (f : OrderKeyed → List Entry) (old new gone : List Entry) (order_key : ℕ) (rules : List OrderKeyed) → ((x : OrderKeyed) (e : Entry) → Contains (f x) e → e.order_key ≡ x.order_key) →
    ((e : Entry) → Contains gone e → e.order_key ≡ order_key) → HaveOtherOrderKeys rules order_key → TakesOut old gone new → ((e : Entry) → Contains (flat_map f rules) e → Contains old e) →
    (e : Entry) → Contains (flat_map f rules) e → Contains new e
of_others f old new gone order_key rules own order_keyed_alike other takes covers e h = (takes e).1 (covers e h, λ k. from (of_flat f rules e h) (order_keyed_alike e k))
  where
    from : (x : OrderKeyed) × Contains rules x × Contains (f x) e → e.order_key ≡ order_key → ⊥
    from (x, among, brings) same = other x among (sym (own x e brings) ∙ same)

pub still_others : (old new : TableParts) (r : RuleParts) (order_key : ℕ) → TakesRule old r order_key new → (rules : List OrderKeyed) → HaveOtherOrderKeys rules order_key → Cover old rules → Cover new rules
still_others old new r order_key takes rules other cover = record {
  selectors = of_others entries_by_selector old.selectors new.selectors (selector_entries order_key r.selectors) order_key rules (λ x e h. order_key_of (λ (s : SelItem). selector_digest s.selector) x.order_key x.rule.selectors e h)
      (λ e h. order_key_of (λ (s : SelItem). selector_digest s.selector) order_key r.selectors e h) other takes.selectors cover.selectors;
  decls = of_others entries_by_decl old.decls new.decls (decl_entries order_key r.decls) order_key rules (λ x e h. order_key_of (λ (d : DeclItem). decl_digest d.decl) x.order_key x.rule.decls e h)
      (λ e h. order_key_of (λ (d : DeclItem). decl_digest d.decl) order_key r.decls e h) other takes.decls cover.decls;
}

pub by_result : {A E P Q X : Type 0} (r : Result A E) → OnOk r P → OnErr r Q → (P → X) → (Q → X) → X
by_result (Ok a) p q f g = f p
by_result (Err e) p q f g = g q

-- ---- Rule by rule

puts_both : (f : OrderKeyed → List Entry) (a b c : List Entry) (first rest : List OrderKeyed) → Puts a (flat_map f first) b → Puts b (flat_map f rest) c → Puts a (flat_map f (first ++ rest)) c
puts_both f a b c [] rest g h e = (λ k. there ((h e).0 k), λ k. (h e).1 (back k))
  where
    there : Contains b e ⊎ Contains (flat_map f rest) e → Contains a e ⊎ Contains (flat_map f rest) e
    there (inl k) = elim ((g e).0 k) [ inl m ↦ inl m | inr m ↦ absurd (Contains-nil e m) ]
    there (inr k) = inr k

    back : Contains a e ⊎ Contains (flat_map f rest) e → Contains b e ⊎ Contains (flat_map f rest) e
    back (inl k) = inl ((g e).1 (inl k))
    back (inr k) = inr k
puts_both f a b c (x ∷ first) rest g h e = (λ k. there ((h e).0 k), λ k. (h e).1 (back k))
  where
    there : Contains b e ⊎ Contains (flat_map f rest) e → Contains a e ⊎ Contains (flat_map f (x ∷ first ++ rest)) e
    there (inl k) = elim ((g e).0 k) [
      | inl m ↦ inl m
      | inr m ↦ (let n : (y : OrderKeyed) × Contains (x ∷ first) y × Contains (f y) e = of_flat f (x ∷ first) e m in inr (in_flat f (x ∷ first ++ rest) n.0 e (Contains-append_left (x ∷ first) rest n.0 n.1) n.2))
    ]
    there (inr k) = (let n : (y : OrderKeyed) × Contains rest y × Contains (f y) e = of_flat f rest e k in inr (in_flat f (x ∷ first ++ rest) n.0 e (Contains-append_right (x ∷ first) rest n.0 n.1) n.2))

    back : Contains a e ⊎ Contains (flat_map f (x ∷ first ++ rest)) e → Contains b e ⊎ Contains (flat_map f rest) e
    back (inl k) = inl ((g e).1 (inl k))
    back (inr k) =
        let n : (y : OrderKeyed) × Contains (x ∷ first ++ rest) y × Contains (f y) e = of_flat f (x ∷ first ++ rest) e k in
        elim (Contains-append_cases (x ∷ first) rest n.0 n.1) [
          | inl m ↦ inl ((g e).1 (inr (in_flat f (x ∷ first) n.0 e m n.2)))
          | inr m ↦ inr (in_flat f rest n.0 e m n.2)
        ]

abbrev one_item : Item → ℕ → List OrderKeyed
one_item x order_key = order_keyed (x ∷ []) (order_key ∷ [])

item_first : (x : Item) (items : List Item) (order_key : ℕ) (order_keys : List ℕ) → order_keyed (x ∷ items) (order_key ∷ order_keys) ≡ one_item x order_key ++ order_keyed items order_keys
item_first (Rule r) items order_key order_keys = refl
item_first (KeptRule k) items order_key order_keys = refl
item_first (KeptBlock piece) items order_key order_keys = refl

pub next_item : (items behind : List Item) (x : Item) (order_keys behind_order_keys : List ℕ) (order_key : ℕ) → items ≡ x ∷ behind → order_keys ≡ order_key ∷ behind_order_keys → (a b c : TableParts) →
    PutsRules a (order_keyed (x ∷ []) (order_key ∷ [])) b → PutsRules b (order_keyed behind behind_order_keys) c → PutsRules a (order_keyed items order_keys) c
next_item items behind x order_keys behind_order_keys order_key is_items is_order_keys a b c g h =
    subst (λ (xs : List Item). PutsRules a (order_keyed xs order_keys) c) (sym is_items)
    (subst (λ (ls : List ℕ). PutsRules a (order_keyed (x ∷ behind) ls) c) (sym is_order_keys)
    (subst (λ (rules : List OrderKeyed). PutsRules a rules c) (sym (item_first x behind order_key behind_order_keys)) (record {
      selectors = puts_both entries_by_selector a.selectors b.selectors c.selectors (one_item x order_key) (order_keyed behind behind_order_keys) g.selectors h.selectors;
      decls = puts_both entries_by_decl a.decls b.decls c.decls (one_item x order_key) (order_keyed behind behind_order_keys) g.decls h.decls;
    })))

puts_same : {X : Type 0} (a : List X) → Puts a [] a
puts_same {X} a x = (λ h. inl h, back)
  where
    back : Contains a x ⊎ Contains [] x → Contains a x
    back (inl h) = h
    back (inr h) = absurd (Contains-nil x h)

pub no_rules : (a : TableParts) (rules : List OrderKeyed) → rules ≡ [] → PutsRules a rules a
no_rules a rules is = subst (λ (xs : List OrderKeyed). PutsRules a xs a) (sym is) (record { selectors = puts_same a.selectors; decls = puts_same a.decls })

pub no_items : (a : TableParts) (items : List Item) (order_keys : List ℕ) → items ≡ [] → PutsRules a (order_keyed items order_keys) a
no_items a items order_keys is = no_rules a (order_keyed items order_keys) (ap (λ (xs : List Item). order_keyed xs order_keys) is)

no_order_key : (items : List Item) → order_keyed items [] ≡ []
no_order_key [] = refl
no_order_key (x ∷ items) = refl

pub no_order_keys : (a : TableParts) (items : List Item) (order_keys : List ℕ) → order_keys ≡ [] → PutsRules a (order_keyed items order_keys) a
no_order_keys a items order_keys is = no_rules a (order_keyed items order_keys) (ap (order_keyed items) is ∙ no_order_key items)

from_nothing : (f : OrderKeyed → List Entry) (new : List Entry) (rules : List OrderKeyed) → Puts [] (flat_map f rules) new → (e : Entry) → Contains new e ↔ Contains (flat_map f rules) e
from_nothing f new rules puts e = (λ h. elim ((puts e).0 h) [ inl k ↦ absurd (Contains-nil e k) | inr k ↦ k ], λ h. (puts e).1 (inr h))

pub covers_made : (new : TableParts) (rules : List OrderKeyed) → StandFor new rules → Cover new rules
covers_made new rules stand = record { selectors = λ e h. (stand.selectors e).1 h; decls = λ e h. (stand.decls e).1 h }

pub made : (old new : TableParts) (rules : List OrderKeyed) → old.selectors ≡ [] → old.decls ≡ [] → PutsRules old rules new → StandFor new rules
made old new rules no_selectors no_decls puts = record {
  selectors = from_nothing entries_by_selector new.selectors rules (subst (λ (es : List Entry). Puts es (flat_map entries_by_selector rules) new.selectors) no_selectors puts.selectors);
  decls = from_nothing entries_by_decl new.decls rules (subst (λ (es : List Entry). Puts es (flat_map entries_by_decl rules) new.decls) no_decls puts.decls);
}

-- the entries of one rule
one_flat : (f : OrderKeyed → List Entry) (x : OrderKeyed) (a b : List Entry) → Puts a (f x) b → Puts a (flat_map f (x ∷ [])) b
one_flat f x a b g e = (λ h. there ((g e).0 h), λ h. (g e).1 (back h))
  where
    there : Contains a e ⊎ Contains (f x) e → Contains a e ⊎ Contains (flat_map f (x ∷ [])) e
    there (inl h) = inl h
    there (inr h) = inr (in_flat f (x ∷ []) x e (Contains-here x []) h)

    back : Contains a e ⊎ Contains (flat_map f (x ∷ [])) e → Contains a e ⊎ Contains (f x) e
    back (inl h) = inl h
    back (inr h) = elim (Contains-append_cases (f x) [] e h) [ inl k ↦ inr k | inr k ↦ absurd (Contains-nil e k) ]

pub rule_as_item : (a b : TableParts) (r : RuleParts) (order_key : ℕ) (x : Item) → x ≡ Rule r → PutsRule a r order_key b → PutsRules a (order_keyed (x ∷ []) (order_key ∷ [])) b
rule_as_item a b r order_key x is puts = subst (λ (y : Item). PutsRules a (order_keyed (y ∷ []) (order_key ∷ [])) b) (sym is) (record {
  selectors = one_flat entries_by_selector (with_order_key r order_key) a.selectors b.selectors puts.selectors;
  decls = one_flat entries_by_decl (with_order_key r order_key) a.decls b.decls puts.decls;
})

-- ---- As the code has the parts

module _ {S : Type 0} (R : List Entry → List Entry → List Entry → Type 0) (f : List S → List Entry) where
  along : (a b c : List Entry) (xs ys : List S) → a ≡ b → xs ≡ ys → R a (f xs) c → R b (f ys) c
  along a b c xs ys e d h = subst (λ (o : List Entry). R o (f ys) c) e (subst (λ (zs : List S). R a (f zs) c) d h)

module _ (old new : TableParts) (r : RuleParts) (order_key : ℕ) (a b : List Entry) (ss : List SelItem) (ds : List DeclItem)
    (is_a : a ≡ old.selectors) (is_b : b ≡ old.decls) (is_ss : ss ≡ r.selectors) (is_ds : ds ≡ r.decls) where
  pub rule_put : Puts a (selector_entries order_key ss) new.selectors → Puts b (decl_entries order_key ds) new.decls → PutsRule old r order_key new
  rule_put g h = record {
    selectors = along Puts (selector_entries order_key) a old.selectors new.selectors ss r.selectors is_a is_ss g;
    decls = along Puts (decl_entries order_key) b old.decls new.decls ds r.decls is_b is_ds h;
  }

  pub rule_partly_put : PutsSome a (selector_entries order_key ss) new.selectors → PutsSome b (decl_entries order_key ds) new.decls → PutsSomeOf old r order_key new
  rule_partly_put g h = record {
    selectors = along PutsSome (selector_entries order_key) a old.selectors new.selectors ss r.selectors is_a is_ss g;
    decls = along PutsSome (decl_entries order_key) b old.decls new.decls ds r.decls is_b is_ds h;
  }

  pub rule_taken : TakesOut a (selector_entries order_key ss) new.selectors → TakesOut b (decl_entries order_key ds) new.decls → TakesRule old r order_key new
  rule_taken g h = record {
    selectors = along TakesOut (selector_entries order_key) a old.selectors new.selectors ss r.selectors is_a is_ss g;
    decls = along TakesOut (decl_entries order_key) b old.decls new.decls ds r.decls is_b is_ds h;
  }
