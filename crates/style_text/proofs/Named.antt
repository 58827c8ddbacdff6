-- Each name of a declaration that applies has a winner among all values of this name.
use Rattle.std.proofs.Common.{◌≡◌, ℕ, suc, Bool, true, false, ◌&&◌, List, [], ◌∷◌, map, Option, Some, None, refl, ap, ap₂, ◌∙◌}
use Rattle.std.specs.Prelude.{◌||◌, if◌then◌else◌, is_some}
use Rattle.std.specs.Cmp.Lexicographic.{bytes_decides}
use Rattle.std.specs.List.{All, Contains, cons_option, filter, filter_map, list_any}
use Rattle.std.specs.Option.{option_map}
use Rattle.std.proofs.lemmas.List.Elements.{All-append, All-cons, All-contains, All-nil, All-weaker}
use Rattle.std.proofs.lemmas.List.Folds.{list_any-append}
use Rattle.list_facts.proofs.Members.{Contains-filtered, Contains-nil}
use Rattle.css_model.specs.declared.example.Example.{Example}
use Rattle.css_model.specs.declared.selector.Specificity.{Specificity}
use Rattle.css_model.specs.declared.sheet.DeclItem.{DeclItem}
use Rattle.css_model.specs.declared.sheet.Item.{Item}
use Rattle.css_model.specs.declared.sheet.Item.TheVariants.{Rule, KeptRule, KeptBlock}
use Rattle.css_model.specs.Cascade.Winner.{AppliedDeclaration, Place, Understood, applied_by_decl, applied_by_decls, applied_from, greater, greatest, is_understood, matching_of, outcome, outranks}
use Rattle.css_model.specs.Documents.Matching.{matches}
use Rattle.css_model.specs.Documents.RunDocuments.{expand, target_of}
use Rattle.css_model.specs.Documents.SelectorParts.{SelectorParts}
use Rattle.css_model.specs.Documents.Specificity.{specificity_of}
use Rattle.css_model.specs.Lists.{same_text}
use Rattle.cascade_eval.specs.Winners.{applied_in, no_meanings, values_in, values_of, winner_of}

-- what applies is among all values of its name, those of declarations and those of a sheet's rules
abbrev KnownIn : List DeclItem → AppliedDeclaration → Type 0
KnownIn decls e = is_understood (values_in e.decl.name decls) e ≡ true

abbrev Known : List Item → AppliedDeclaration → Type 0
Known items e = is_understood (values_of e.decl.name items) e ≡ true

or_first : (a b : Bool) → a ≡ true → (a || b) ≡ true
or_first a b h = ap (λ c. c || b) h

or_second : (a b : Bool) → b ≡ true → (a || b) ≡ true
or_second true b h = refl
or_second false b h = h

itself : (text : List ℕ) → same_text text text ≡ true
itself text = (bytes_decides text text).1 refl

-- whether an entry's declaration has this value
abbrev gives : AppliedDeclaration → Understood → Bool
gives e u = same_text u.name e.decl.name && same_text u.value e.decl.value

first_known : (d : DeclItem) (decls : List DeclItem) (s : Specificity) (place : Place) → KnownIn (d ∷ decls) (record { decl = d.decl; specificity = s; place = place })
first_known d decls s place =
    let own : Understood = record { name = d.decl.name; value = d.decl.value } in
    let e : AppliedDeclaration = record { decl = d.decl; specificity = s; place = place } in
    ap (λ (b : Bool). list_any (gives e) (if b then (own ∷ values_in d.decl.name decls) else values_in d.decl.name decls)) (itself d.decl.name)
    ∙ or_first (gives e own) (list_any (gives e) (values_in d.decl.name decls)) (ap₂ (λ (a b : Bool). a && b) (itself d.decl.name) (itself d.decl.value))

more_known : (d : DeclItem) (decls : List DeclItem) (e : AppliedDeclaration) → KnownIn decls e → KnownIn (d ∷ decls) e
more_known d decls e h = by (same_text d.decl.name e.decl.name)
  where
    own : Understood
    own = record { name = d.decl.name; value = d.decl.value }

    by : (b : Bool) → list_any (gives e) (if b then (own ∷ values_in e.decl.name decls) else values_in e.decl.name decls) ≡ true
    by true = or_second (gives e own) (list_any (gives e) (values_in e.decl.name decls)) h
    by false = h

decl_known : (d : DeclItem) (decls : List DeclItem) (matching : List SelectorParts) (place : Place) → All (KnownIn (d ∷ decls)) (applied_by_decl matching place d.decl)
decl_known d decls [] place = All-nil (KnownIn (d ∷ decls))
decl_known d decls (s ∷ matching) place =
    let e : AppliedDeclaration = record { decl = d.decl; specificity = specificity_of s; place = place } in
    All-cons (KnownIn (d ∷ decls)) e (applied_by_decl matching place d.decl) (first_known d decls (specificity_of s) place) (decl_known d decls matching place)

decls_known : (matching : List SelectorParts) (item position : ℕ) (decls : List DeclItem) → All (KnownIn decls) (applied_by_decls matching item position decls)
decls_known matching item position [] = All-nil (KnownIn [])
decls_known matching item position (d ∷ decls) =
    let place : Place = record { item = item; position = position } in
    All-append (KnownIn (d ∷ decls)) (applied_by_decl matching place d.decl) (applied_by_decls matching item (suc position) decls) (decl_known d decls matching place)
    (All-weaker (KnownIn decls) (KnownIn (d ∷ decls)) (λ e h. more_known d decls e h) (applied_by_decls matching item (suc position) decls) (decls_known matching item (suc position) decls))

items_known : (matched : SelectorParts → Bool) (n : ℕ) (items : List Item) → All (Known items) (applied_from matched n (no_meanings items) items)
items_known matched n [] = All-nil (Known [])
items_known matched n (Rule r ∷ items) =
    All-append (Known (Rule r ∷ items)) (applied_by_decls (matching_of matched r) n 0 r.decls) (applied_from matched (suc n) (no_meanings items) items)
    (All-weaker (KnownIn r.decls) (Known (Rule r ∷ items))
    (λ e h. list_any-append (gives e) (values_in e.decl.name r.decls) (values_of e.decl.name items)
    ∙ or_first (list_any (gives e) (values_in e.decl.name r.decls)) (list_any (gives e) (values_of e.decl.name items)) h)
    (applied_by_decls (matching_of matched r) n 0 r.decls) (decls_known (matching_of matched r) n 0 r.decls))
    (All-weaker (Known items) (Known (Rule r ∷ items))
    (λ e h. list_any-append (gives e) (values_in e.decl.name r.decls) (values_of e.decl.name items)
    ∙ or_second (list_any (gives e) (values_in e.decl.name r.decls)) (list_any (gives e) (values_of e.decl.name items)) h)
    (applied_from matched (suc n) (no_meanings items) items) (items_known matched (suc n) items))
items_known matched n (KeptRule kept ∷ items) = items_known matched (suc n) items
items_known matched n (KeptBlock piece ∷ items) = items_known matched (suc n) items

greater_some : (e : AppliedDeclaration) (o : Option AppliedDeclaration) → is_some (option_map outcome (greater e o)) ≡ true
greater_some e None = refl
greater_some e (Some f) = by (outranks e f)
  where
    by : (b : Bool) → is_some (option_map outcome (if b then Some e else Some f)) ≡ true
    by true = refl
    by false = refl

greatest_some : (es : List AppliedDeclaration) (e : AppliedDeclaration) → Contains es e → is_some (option_map outcome (greatest es)) ≡ true
greatest_some [] e h = absurd (Contains-nil e h)
greatest_some (f ∷ es) e h = greater_some f (greatest es)

pub has_winner : (x : Example) (items : List Item) (e : AppliedDeclaration) → Contains (applied_in x items) e → is_some (winner_of x items e.decl.name) ≡ true
has_winner x items e h =
    let us = values_of e.decl.name items in
    let known : is_understood us e ≡ true = All-contains (Known items) (applied_in x items) e (items_known (matches (expand x) (target_of x)) 0 items) h in
    greatest_some (filter (is_understood us) (applied_in x items)) e (Contains-filtered (is_understood us) (applied_in x items) e h known)

-- ---- Those of a list that are there

pub kept_some : {A B : Type 0} (f : A → Option B) (xs : List A) → map f (filter (λ x. is_some (f x)) xs) ≡ map (λ y. Some y) (filter_map f xs)
kept_some f [] = refl
kept_some {A} {B} f (x ∷ xs) = by (f x) refl (kept_some f xs)
  where
    by : (o : Option B) → f x ≡ o → map f (filter (λ y. is_some (f y)) xs) ≡ map (λ y. Some y) (filter_map f xs)
        → map f (if is_some o then (x ∷ filter (λ y. is_some (f y)) xs) else filter (λ y. is_some (f y)) xs) ≡ map (λ y. Some y) (cons_option o (filter_map f xs))
    by None e later = later
    by (Some y) e later = ap₂ (λ (o : Option B) (os : List (Option B)). o ∷ os) e later
