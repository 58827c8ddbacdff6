-- The values that a sheet gives a property: those of its entries of this property are among them, and no others.
use Rattle.std.proofs.Common.{◌≡◌, ◌+◌, ℕ, Bool, true, false, cond, List, [], ◌∷◌, ◌++◌, map, refl, sym, ap, ap₂, subst, ◌∙◌}
use Rattle.std.specs.Prelude.{◌&&◌, ◌||◌, codes}
use Rattle.std.specs.List.{All, AllByRecursion, Contains, enumerate_from, flat_map, list_any}
use Rattle.std.specs.Cmp.Lexicographic.{bytes_decides}
use Rattle.std.proofs.lemmas.Bool.{and_parts, false≢true, false_from_ne_true, or_left, or_right}
use Rattle.std.proofs.lemmas.List.Elements.{All-contains, All-from_recursion}
use Rattle.std.proofs.lemmas.List.Folds.{list_any-append}
use Rattle.cascade_eval.specs.Winners.{values_in, values_of}
use Rattle.css_model.specs.declared.sheet.Decl.{Decl}
use Rattle.css_model.specs.declared.sheet.DeclItem.{DeclItem}
use Rattle.css_model.specs.declared.sheet.Item.{Item}
use Rattle.css_model.specs.declared.sheet.Item.TheVariants.{Rule, KeptRule, KeptBlock}
use Rattle.css_model.specs.Cascade.Winner.{Understood}
use Rattle.css_model.specs.Documents.SelectorParts.{SelectorParts}
use Rattle.css_model.specs.Lists.{same_text}
use Rattle.media_groups.specs.declared.media.Media.{Media}
use Rattle.media_groups.specs.Levels.{body_level}
use Rattle.media_groups.specs.Opened.{opened_of}
use Rattle.inspect_laws.specs.Entries.{Entry, Layer, Matching, body_layer, by_item, by_layer, entries_by, entry_of, matching_in, outer_layer}
use Rattle.inspect_laws.specs.Groups.{is_all}
use Rattle.inspect_laws.specs.Laws.{values_in_all}
use Rattle.inspect_laws.proofs.Ascending.{all_append, all_weaker}

-- whether a value is one of a declaration's property, and its own
abbrev pub gives : Decl → Understood → Bool
gives d u = same_text u.name d.name && same_text u.value d.value

itself : (text : List ℕ) → same_text text text ≡ true
itself text = (bytes_decides text text).1 refl

either : (p : Understood → Bool) (us vs : List Understood) → (list_any p us || list_any p vs) ≡ true → list_any p (us ++ vs) ≡ true
either p us vs h = list_any-append p us vs ∙ h

-- ---- Each entry's value is given

-- among the values of the property of an entry
abbrev IsGivenBy : (List ℕ → List Understood) → Entry → Type 0
IsGivenBy values e = list_any (gives e.decl) (values e.decl.name) ≡ true

first_given : (d : DeclItem) (decls : List DeclItem) → list_any (gives d.decl) (values_in d.decl.name (d ∷ decls)) ≡ true
first_given d decls =
    ap (λ b. list_any (gives d.decl) (cond b (record { name = d.decl.name; value = d.decl.value } ∷ values_in d.decl.name decls) (values_in d.decl.name decls))) (itself d.decl.name)
    ∙ or_left (same_text d.decl.name d.decl.name && same_text d.decl.value d.decl.value) (list_any (gives d.decl) (values_in d.decl.name decls))
    (ap₂ (λ (a b : Bool). a && b) (itself d.decl.name) (itself d.decl.value))

later_given : (p : Understood → Bool) (name : List ℕ) (d : DeclItem) (decls : List DeclItem) → list_any p (values_in name decls) ≡ true → list_any p (values_in name (d ∷ decls)) ≡ true
later_given p name d decls h = which (same_text d.decl.name name)
  where
    which : (b : Bool) → list_any p (cond b (record { name = d.decl.name; value = d.decl.value } ∷ values_in name decls) (values_in name decls)) ≡ true
    which true = or_right (p (record { name = d.decl.name; value = d.decl.value })) (list_any p (values_in name decls)) h
    which false = h

by_matching : (l : Layer) (item : ℕ) (k : ℕ) (d : DeclItem) (decls : List DeclItem) (ms : List Matching) → AllByRecursion (IsGivenBy (λ name. values_in name (d ∷ decls))) (map (entry_of l item (k, d)) ms)
by_matching l item k d decls [] = tt
by_matching l item k d decls (m ∷ ms) = (first_given d decls, by_matching l item k d decls ms)

by_decls : (l : Layer) (item : ℕ) (ms : List Matching) (k : ℕ) (decls : List DeclItem) →
    AllByRecursion (IsGivenBy (λ name. values_in name decls)) (flat_map (λ d. map (entry_of l item d) ms) (enumerate_from k decls))
by_decls l item ms k [] = tt
by_decls l item ms k (d ∷ decls) =
    all_append (IsGivenBy (λ name. values_in name (d ∷ decls))) (map (entry_of l item (k, d)) ms) (flat_map (λ x. map (entry_of l item x) ms) (enumerate_from (k + 1) decls))
    (by_matching l item k d decls ms)
    (all_weaker (IsGivenBy (λ name. values_in name decls)) (IsGivenBy (λ name. values_in name (d ∷ decls))) (λ e h. later_given (gives e.decl) e.decl.name d decls h)
    (flat_map (λ x. map (entry_of l item x) ms) (enumerate_from (k + 1) decls)) (by_decls l item ms (k + 1) decls))

by_items : (matched : SelectorParts → Bool) (l : Layer) (n : ℕ) (items : List Item) →
    AllByRecursion (IsGivenBy (λ name. values_of name items)) (flat_map (by_item matched l) (enumerate_from n items))
by_items matched l n [] = tt
by_items matched l n (Rule r ∷ items) =
    all_append (IsGivenBy (λ name. values_of name (Rule r ∷ items))) (by_item matched l (n, Rule r)) (flat_map (by_item matched l) (enumerate_from (n + 1) items))
    (all_weaker (IsGivenBy (λ name. values_in name r.decls)) (IsGivenBy (λ name. values_of name (Rule r ∷ items)))
    (λ e h. either (gives e.decl) (values_in e.decl.name r.decls) (values_of e.decl.name items)
    (or_left (list_any (gives e.decl) (values_in e.decl.name r.decls)) (list_any (gives e.decl) (values_of e.decl.name items)) h))
    (by_item matched l (n, Rule r)) (by_decls l n (matching_in matched l.source (enumerate_from 0 r.selectors)) 0 r.decls))
    (all_weaker (IsGivenBy (λ name. values_of name items)) (IsGivenBy (λ name. values_of name (Rule r ∷ items)))
    (λ e h. either (gives e.decl) (values_in e.decl.name r.decls) (values_of e.decl.name items)
    (or_right (list_any (gives e.decl) (values_in e.decl.name r.decls)) (list_any (gives e.decl) (values_of e.decl.name items)) h))
    (flat_map (by_item matched l) (enumerate_from (n + 1) items)) (by_items matched l (n + 1) items))
by_items matched l n (KeptRule k ∷ items) = by_items matched l (n + 1) items
by_items matched l n (KeptBlock piece ∷ items) = by_items matched l (n + 1) items

-- the values that bodies give
abbrev in_bodies : (source : List ℕ) (media : List Media) (name : List ℕ) → List Understood
in_bodies source media name = flat_map (λ l. values_of name l.items) (map (body_level source) media)

by_bodies : (matched : SelectorParts → Bool) (source : List ℕ) (media : List Media) → AllByRecursion (IsGivenBy (in_bodies source media)) (flat_map (λ m. by_layer matched (body_layer source m)) media)
by_bodies matched source [] = tt
by_bodies matched source (m ∷ media) =
    all_append (IsGivenBy (in_bodies source (m ∷ media))) (by_layer matched (body_layer source m)) (flat_map (λ x. by_layer matched (body_layer source x)) media)
    (all_weaker (IsGivenBy (λ name. values_of name m.sheet.items)) (IsGivenBy (in_bodies source (m ∷ media)))
    (λ e h. either (gives e.decl) (values_of e.decl.name m.sheet.items) (in_bodies source media e.decl.name)
    (or_left (list_any (gives e.decl) (values_of e.decl.name m.sheet.items)) (list_any (gives e.decl) (in_bodies source media e.decl.name)) h))
    (by_layer matched (body_layer source m)) (by_items matched (body_layer source m) 0 m.sheet.items))
    (all_weaker (IsGivenBy (in_bodies source media)) (IsGivenBy (in_bodies source (m ∷ media)))
    (λ e h. either (gives e.decl) (values_of e.decl.name m.sheet.items) (in_bodies source media e.decl.name)
    (or_right (list_any (gives e.decl) (values_of e.decl.name m.sheet.items)) (list_any (gives e.decl) (in_bodies source media e.decl.name)) h))
    (flat_map (λ x. by_layer matched (body_layer source x)) media) (by_bodies matched source media))

all_given : (matched : SelectorParts → Bool) (source : List ℕ) (items : List Item) → AllByRecursion (IsGivenBy (values_in_all source items)) (entries_by matched source items)
all_given matched source items =
    all_append (IsGivenBy (values_in_all source items)) (by_layer matched (outer_layer source items)) (flat_map (λ m. by_layer matched (body_layer source m)) (opened_of items source))
    (all_weaker (IsGivenBy (λ name. values_of name items)) (IsGivenBy (values_in_all source items))
    (λ e h. either (gives e.decl) (values_of e.decl.name items) (in_bodies source (opened_of items source) e.decl.name)
    (or_left (list_any (gives e.decl) (values_of e.decl.name items)) (list_any (gives e.decl) (in_bodies source (opened_of items source) e.decl.name)) h))
    (by_layer matched (outer_layer source items)) (by_items matched (outer_layer source items) 0 items))
    (all_weaker (IsGivenBy (in_bodies source (opened_of items source))) (IsGivenBy (values_in_all source items))
    (λ e h. either (gives e.decl) (values_of e.decl.name items) (in_bodies source (opened_of items source) e.decl.name)
    (or_right (list_any (gives e.decl) (values_of e.decl.name items)) (list_any (gives e.decl) (in_bodies source (opened_of items source) e.decl.name)) h))
    (flat_map (λ m. by_layer matched (body_layer source m)) (opened_of items source)) (by_bodies matched source (opened_of items source)))

-- ---- No other property's value is

-- where a declaration's value is among values of a property, it is one of this property
abbrev Names : List ℕ → List Understood → Type 0
Names name us = (d : Decl) → list_any (gives d) us ≡ true → d.name ≡ name

names_none : (name : List ℕ) → Names name []
names_none name d h = absurd (false≢true h)

names_append : (name : List ℕ) (us vs : List Understood) → Names name us → Names name vs → Names name (us ++ vs)
names_append name us vs some more d h = which (list_any (gives d) us) refl
  where
    which : (b : Bool) → list_any (gives d) us ≡ b → d.name ≡ name
    which true g = some d g
    which false g = more d (sym (ap (λ (b : Bool). b || list_any (gives d) vs) g) ∙ sym (list_any-append (gives d) us vs) ∙ h)

names_in : (name : List ℕ) (decls : List DeclItem) → Names name (values_in name decls)
names_in name [] d h = absurd (false≢true h)
names_in name (x ∷ decls) d h = which (same_text x.decl.name name) refl h (λ later. names_in name decls d later)
  where
    which : (b : Bool) → same_text x.decl.name name ≡ b → list_any (gives d) (cond b (record { name = x.decl.name; value = x.decl.value } ∷ values_in name decls) (values_in name decls)) ≡ true →
        (list_any (gives d) (values_in name decls) ≡ true → d.name ≡ name) → d.name ≡ name
    which false is h later = later h
    which true is h later = first (gives d (record { name = x.decl.name; value = x.decl.value })) refl
      where
        first : (c : Bool) → gives d (record { name = x.decl.name; value = x.decl.value }) ≡ c → d.name ≡ name
        first true g =
            sym ((bytes_decides x.decl.name d.name).0 (and_parts (same_text x.decl.name d.name) (same_text x.decl.value d.value) g).0) ∙ (bytes_decides x.decl.name name).0 is
        first false g = later (sym (ap (λ (c : Bool). c || list_any (gives d) (values_in name decls)) g) ∙ h)

names_of_items : (name : List ℕ) (items : List Item) → Names name (values_of name items)
names_of_items name [] = names_none name
names_of_items name (Rule r ∷ items) = names_append name (values_in name r.decls) (values_of name items) (names_in name r.decls) (names_of_items name items)
names_of_items name (KeptRule k ∷ items) = names_of_items name items
names_of_items name (KeptBlock piece ∷ items) = names_of_items name items

names_in_bodies : (name : List ℕ) (source : List ℕ) (media : List Media) → Names name (in_bodies source media name)
names_in_bodies name source [] = names_none name
names_in_bodies name source (m ∷ media) =
    names_append name (values_of name m.sheet.items) (in_bodies source media name) (names_of_items name m.sheet.items) (names_in_bodies name source media)

names_in_all : (name : List ℕ) (source : List ℕ) (items : List Item) → Names name (values_in_all source items name)
names_in_all name source items =
    names_append name (values_of name items) (in_bodies source (opened_of items source) name) (names_of_items name items) (names_in_bodies name source (opened_of items source))

-- ---- So exactly the entries of a property and of `all` are understood

module _ (matched : SelectorParts → Bool) (source : List ℕ) (items : List Item) (e : Entry) (among : Contains (entries_by matched source items) e) where
  of_name : (name : List ℕ) → list_any (gives e.decl) (values_in_all source items name) ≡ same_text e.decl.name name
  of_name name = which (same_text e.decl.name name) refl
    where
      given : IsGivenBy (values_in_all source items) e
      given =
          All-contains (IsGivenBy (values_in_all source items)) (entries_by matched source items) e
          (All-from_recursion (IsGivenBy (values_in_all source items)) (entries_by matched source items) (all_given matched source items)) among

      which : (b : Bool) → same_text e.decl.name name ≡ b → list_any (gives e.decl) (values_in_all source items name) ≡ b
      which true is = subst (λ (n : List ℕ). list_any (gives e.decl) (values_in_all source items n) ≡ true) ((bytes_decides e.decl.name name).0 is) given
      which false is = false_from_ne_true (list_any (gives e.decl) (values_in_all source items name)) (λ yes.
          false≢true (sym is ∙ (bytes_decides e.decl.name name).1 (names_in_all name source items e.decl yes)))

  pub understood : (name : List ℕ) → list_any (gives e.decl) (values_in_all source items name ++ values_in_all source items (codes "all")) ≡ (same_text e.decl.name name || is_all e)
  understood name =
      list_any-append (gives e.decl) (values_in_all source items name) (values_in_all source items (codes "all"))
      ∙ ap₂ (λ (a b : Bool). a || b) (of_name name) (of_name (codes "all"))
