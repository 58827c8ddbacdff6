-- Among what the rules of a sheet apply, all values of a property are understood exactly where the name is its name.
use Rattle.std.proofs.Common.{◌≡◌, ℕ, ◌+◌, Bool, true, false, ◌&&◌, List, [], ◌∷◌, ◌++◌, map, cond, refl, sym, ap, ap₂, ◌∙◌}
use Rattle.std.specs.Prelude.{◌||◌, if◌then◌else◌}
use Rattle.std.specs.Cmp.Lexicographic.{bytes_decides}
use Rattle.std.specs.List.{filter, list_any}
use Rattle.std.proofs.lemmas.Bool.{false≢true}
use Rattle.std.proofs.lemmas.List.Elements.{filter-append}
use Rattle.std.proofs.lemmas.List.Folds.{list_any-append}
use Rattle.css_model.specs.declared.selector.Specificity.{Specificity}
use Rattle.css_model.specs.declared.sheet.Decl.{Decl}
use Rattle.css_model.specs.declared.sheet.DeclItem.{DeclItem}
use Rattle.css_model.specs.declared.sheet.Item.{Item}
use Rattle.css_model.specs.declared.sheet.Item.TheVariants.{Rule, KeptRule, KeptBlock}
use Rattle.css_model.specs.Cascade.Winner.{AppliedDeclaration, Place, Understood, is_understood}
use Rattle.css_model.specs.Documents.SelectorParts.{SelectorParts}
use Rattle.css_model.specs.Lists.{same_text}
use Rattle.cascade_eval.specs.Entries.{by_rules, weighed, weighed_all, weights_of}
use Rattle.cascade_eval.specs.Winners.{values_in, values_of}

-- ---- Values of other names

abbrev gives : Decl → Understood → Bool
gives d u = same_text u.name d.name && same_text u.value d.value

abbrev is_named : List ℕ → AppliedDeclaration → Bool
is_named name e = same_text e.decl.name name

itself : (xs : List ℕ) → same_text xs xs ≡ true
itself xs = (bytes_decides xs xs).1 refl

differs : (a b name : List ℕ) → same_text a name ≡ true → same_text b name ≡ false → same_text a b ≡ false
differs a b name ha hb = by (same_text a b) refl
  where
    by : (c : Bool) → same_text a b ≡ c → c ≡ false
    by false e = refl
    by true e = absurd (false≢true (sym hb ∙ ap (λ (xs : List ℕ). same_text xs name) (sym ((bytes_decides a b).0 e)) ∙ ha))

other_in : (name : List ℕ) (d : Decl) → same_text d.name name ≡ false → (decls : List DeclItem) → list_any (gives d) (values_in name decls) ≡ false
other_in name d h [] = refl
other_in name d h (x ∷ decls) = by (same_text x.decl.name name) refl (other_in name d h decls)
  where
    by : (b : Bool) → same_text x.decl.name name ≡ b → list_any (gives d) (values_in name decls) ≡ false →
        list_any (gives d) (if b then (record { name = x.decl.name; value = x.decl.value } ∷ values_in name decls) else values_in name decls) ≡ false
    by true e later = ap (λ c. (c && same_text x.decl.value d.value) || list_any (gives d) (values_in name decls)) (differs x.decl.name d.name name e h) ∙ later
    by false e later = later

other : (name : List ℕ) (d : Decl) → same_text d.name name ≡ false → (items : List Item) → list_any (gives d) (values_of name items) ≡ false
other name d h [] = refl
other name d h (Rule r ∷ items) =
    list_any-append (gives d) (values_in name r.decls) (values_of name items)
    ∙ ap₂ (λ (a b : Bool). a || b) (other_in name d h r.decls) (other name d h items)
other name d h (KeptRule kept ∷ items) = other name d h items
other name d h (KeptBlock piece ∷ items) = other name d h items

-- ---- Values of the name

-- what some values give, these do too
abbrev Covers : (us some : List Understood) → Type 0
Covers us some = (p : Understood → Bool) → list_any p some ≡ true → list_any p us ≡ true

abbrev Refuses : List Understood → List ℕ → Type 0
Refuses us name = (d : Decl) → same_text d.name name ≡ false → list_any (gives d) us ≡ false

or_first : (a b : Bool) → a ≡ true → (a || b) ≡ true
or_first a b h = ap (λ c. c || b) h

or_second : (a b : Bool) → b ≡ true → (a || b) ≡ true
or_second true b h = refl
or_second false b h = h

first_given : (name : List ℕ) (x : DeclItem) (decls : List DeclItem) → same_text x.decl.name name ≡ true → list_any (gives x.decl) (values_in name (x ∷ decls)) ≡ true
first_given name x decls h =
    ap (λ b. list_any (gives x.decl) (if b then (record { name = x.decl.name; value = x.decl.value } ∷ values_in name decls) else values_in name decls)) h
    ∙ or_first (same_text x.decl.name x.decl.name && same_text x.decl.value x.decl.value) (list_any (gives x.decl) (values_in name decls))
    (ap₂ (λ (a b : Bool). a && b) (itself x.decl.name) (itself x.decl.value))

later_covered : (name : List ℕ) (us : List Understood) (x : DeclItem) (decls : List DeclItem) → Covers us (values_in name (x ∷ decls)) → Covers us (values_in name decls)
later_covered name us x decls covers p h = covers p (by (same_text x.decl.name name))
  where
    by : (b : Bool) → list_any p (if b then (record { name = x.decl.name; value = x.decl.value } ∷ values_in name decls) else values_in name decls) ≡ true
    by true = or_second (p (record { name = x.decl.name; value = x.decl.value })) (list_any p (values_in name decls)) h
    by false = h

decides : (name : List ℕ) (us : List Understood) → Refuses us name → (x : DeclItem) (decls : List DeclItem) → Covers us (values_in name (x ∷ decls)) →
    list_any (gives x.decl) us ≡ same_text x.decl.name name
decides name us refuses x decls covers = by (same_text x.decl.name name) refl
  where
    by : (b : Bool) → same_text x.decl.name name ≡ b → list_any (gives x.decl) us ≡ b
    by true e = covers (gives x.decl) (first_given name x decls e)
    by false e = refuses x.decl e

-- ---- What is applied

one_kept : (name : List ℕ) (us : List Understood) (d : Decl) (place : Place) → list_any (gives d) us ≡ same_text d.name name → (weights : List Specificity) →
    filter (is_understood us) (weighed weights place d) ≡ filter (is_named name) (weighed weights place d)
one_kept name us d place same [] = refl
one_kept name us d place same (w ∷ weights) =
    ap (λ b. cond b (record { decl = d; specificity = w; place = place } ∷ filter (is_understood us) (weighed weights place d)) (filter (is_understood us) (weighed weights place d))) same
    ∙ ap (λ (es : List AppliedDeclaration). cond (same_text d.name name) (record { decl = d; specificity = w; place = place } ∷ es) es) (one_kept name us d place same weights)

decls_kept : (name : List ℕ) (us : List Understood) → Refuses us name → (weights : List Specificity) (item position : ℕ) (decls : List DeclItem) → Covers us (values_in name decls) →
    filter (is_understood us) (weighed_all weights item position decls) ≡ filter (is_named name) (weighed_all weights item position decls)
decls_kept name us refuses weights item position [] covers = refl
decls_kept name us refuses weights item position (x ∷ decls) covers =
    filter-append (is_understood us) (weighed weights (record { item = item; position = position }) x.decl) (weighed_all weights item (position + 1) decls)
    ∙ ap₂ (λ (xs ys : List AppliedDeclaration). xs ++ ys)
    (one_kept name us x.decl (record { item = item; position = position }) (decides name us refuses x decls covers) weights)
    (decls_kept name us refuses weights item (position + 1) decls (later_covered name us x decls covers))
    ∙ sym (filter-append (is_named name) (weighed weights (record { item = item; position = position }) x.decl) (weighed_all weights item (position + 1) decls))

items_kept : (name : List ℕ) (us : List Understood) → Refuses us name → (matched : SelectorParts → Bool) (n : ℕ) (items : List Item) → Covers us (values_of name items) →
    filter (is_understood us) (by_rules matched n items) ≡ filter (is_named name) (by_rules matched n items)
items_kept name us refuses matched n [] covers = refl
items_kept name us refuses matched n (Rule r ∷ items) covers =
    filter-append (is_understood us) (weighed_all (weights_of matched r) n 0 r.decls) (by_rules matched (n + 1) items)
    ∙ ap₂ (λ (xs ys : List AppliedDeclaration). xs ++ ys)
    (decls_kept name us refuses (weights_of matched r) n 0 r.decls
    (λ p h. covers p (list_any-append p (values_in name r.decls) (values_of name items) ∙ or_first (list_any p (values_in name r.decls)) (list_any p (values_of name items)) h)))
    (items_kept name us refuses matched (n + 1) items
    (λ p h. covers p (list_any-append p (values_in name r.decls) (values_of name items) ∙ or_second (list_any p (values_in name r.decls)) (list_any p (values_of name items)) h)))
    ∙ sym (filter-append (is_named name) (weighed_all (weights_of matched r) n 0 r.decls) (by_rules matched (n + 1) items))
items_kept name us refuses matched n (KeptRule kept ∷ items) covers = items_kept name us refuses matched (n + 1) items covers
items_kept name us refuses matched n (KeptBlock piece ∷ items) covers = items_kept name us refuses matched (n + 1) items covers

pub named_kept : (name : List ℕ) (matched : SelectorParts → Bool) (items : List Item) →
    filter (is_understood (values_of name items)) (by_rules matched 0 items) ≡ filter (λ e. same_text e.decl.name name) (by_rules matched 0 items)
named_kept name matched items = items_kept name (values_of name items) (λ d h. other name d h items) matched 0 items (λ p h. h)
