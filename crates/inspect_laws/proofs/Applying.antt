-- What a sheet applies in a scene, as its entries apply it.
use Rattle.std.proofs.Common.{◌≡◌, ◌+◌, ℕ, suc, Bool, true, false, cond, List, [], ◌∷◌, ◌++◌, map, Option, Some, None, refl, sym, ap, ap₂, ◌∙◌}
use Rattle.std.specs.List.{AllByRecursion, enumerate_from, filter, flat_map, list_any}
use Rattle.std.proofs.lemmas.List.{map-append}
use Rattle.std.proofs.lemmas.List.Elements.{filter-append}
use Rattle.cascade_eval.specs.Winners.{no_meanings}
use Rattle.cascade_laws.specs.Meaning.Meanings.{meaning_of_sheet, without_place}
use Rattle.css_model.specs.declared.selector.Specificity.{Specificity}
use Rattle.css_model.specs.declared.sheet.Decl.{Decl}
use Rattle.css_model.specs.declared.sheet.DeclItem.{DeclItem}
use Rattle.css_model.specs.declared.sheet.Item.{Item}
use Rattle.css_model.specs.declared.sheet.Item.TheVariants.{Rule, KeptRule, KeptBlock}
use Rattle.css_model.specs.declared.sheet.SelItem.{SelItem}
use Rattle.css_model.specs.Cascade.Winner as cascade
use Rattle.css_model.specs.Cascade.Winner.{AppliedDeclaration, Declared, Place, applied_by_decl, applied_by_decls, applied_by_kept, applied_from}
use Rattle.css_model.specs.Documents.Document.{Document, Target}
use Rattle.css_model.specs.Documents.Matching.{matches}
use Rattle.css_model.specs.Documents.SelectorParts.{SelectorParts}
use Rattle.css_model.specs.Documents.Specificity.{specificity_of}
use Rattle.css_model.specs.Sheets.Printed.{printed_selector}
use Rattle.css_model.specs.Sheets.RuleParts.{RuleParts}
use Rattle.css_model.specs.Sheets.Spelling.{kept_text}
use Rattle.media_groups.specs.declared.media.Media.{Media}
use Rattle.media_groups.specs.Opened.{is_import_item}
use Rattle.opened_laws.specs.Media.Scenes.{meaning_in, meanings_of}
use Rattle.inspect_laws.specs.Entries.{Entry, Layer, Matching, body_layer, by_item, by_layer, by_rule, entry_of, matching_in}
use Rattle.inspect_laws.specs.Laws.{scene_of, stands}
use Rattle.inspect_laws.proofs.Walking.{of_block, of_own, outer, own, owns, walked}

-- an entry without its place
abbrev pub declared_of : Entry → Declared
declared_of e = record { decl = e.decl; specificity = e.specificity }

-- ---- What a rule applies

-- a declaration with these specificities
abbrev weighted : Decl → List Specificity → List Declared
weighted d weights = map (λ weight. record { decl = d; specificity = weight }) weights

by_selectors : (matching : List SelectorParts) (place : Place) (d : Decl) → map without_place (applied_by_decl matching place d) ≡ weighted d (map (λ s. specificity_of s) matching)
by_selectors [] place d = refl
by_selectors (s ∷ matching) place d = ap (λ (ds : List Declared). record { decl = d; specificity = specificity_of s } ∷ ds) (by_selectors matching place d)

by_matching : (l : Layer) (item : ℕ) (d : ℕ × DeclItem) (ms : List Matching) → map declared_of (map (entry_of l item d) ms) ≡ weighted d.1.decl (map (λ m. m.specificity) ms)
by_matching l item d [] = refl
by_matching l item d (m ∷ ms) = ap (λ (ds : List Declared). record { decl = d.1.decl; specificity = m.specificity } ∷ ds) (by_matching l item d ms)

same_weights : (matched : SelectorParts → Bool) (source : List ℕ) (n : ℕ) (selectors : List SelItem) →
    map (λ m. m.specificity) (matching_in matched source (enumerate_from n selectors)) ≡ map (λ s. specificity_of s) (filter matched (map (λ s. s.selector) selectors))
same_weights matched source n [] = refl
same_weights matched source n (s ∷ selectors) = which (matched s.selector) (same_weights matched source (n + 1) selectors)
  where
    which : (b : Bool) →
        map (λ m. m.specificity) (matching_in matched source (enumerate_from (n + 1) selectors)) ≡ map (λ s. specificity_of s) (filter matched (map (λ s. s.selector) selectors)) →
        map (λ m. m.specificity) (cond b (record { number = n; specificity = specificity_of s.selector; text = printed_selector source s } ∷ []) [] ++ matching_in matched source (enumerate_from (n + 1) selectors))
        ≡ map (λ t. specificity_of t) (cond b (s.selector ∷ filter matched (map (λ t. t.selector) selectors)) (filter matched (map (λ t. t.selector) selectors)))
    which true later = ap (λ (weights : List Specificity). specificity_of s.selector ∷ weights) later
    which false later = later

by_decls : (l : Layer) (item : ℕ) (ms : List Matching) (matching : List SelectorParts) → map (λ m. m.specificity) ms ≡ map (λ s. specificity_of s) matching → (number position k : ℕ) (decls : List DeclItem) →
    map without_place (applied_by_decls matching number position decls) ≡ map declared_of (flat_map (λ d. map (entry_of l item d) ms) (enumerate_from k decls))
by_decls l item ms matching same number position k [] = refl
by_decls l item ms matching same number position k (d ∷ decls) =
    map-append without_place (applied_by_decl matching (record { item = number; position = position }) d.decl) (applied_by_decls matching number (suc position) decls)
    ∙ ap₂ (λ (us vs : List Declared). us ++ vs)
    (by_selectors matching (record { item = number; position = position }) d.decl ∙ sym (ap (weighted d.decl) same) ∙ sym (by_matching l item (k, d) ms))
    (by_decls l item ms matching same number (suc position) (k + 1) decls)
    ∙ sym (map-append declared_of (map (entry_of l item (k, d)) ms) (flat_map (λ x. map (entry_of l item x) ms) (enumerate_from (k + 1) decls)))

rule_applies : (matched : SelectorParts → Bool) (l : Layer) (item number : ℕ) (r : RuleParts) →
    map without_place (applied_by_decls (cascade.matching_of matched r) number 0 r.decls) ≡ map declared_of (by_rule matched l item r)
rule_applies matched l item number r =
    by_decls l item (matching_in matched l.source (enumerate_from 0 r.selectors)) (cascade.matching_of matched r) (same_weights matched l.source 0 r.selectors) number 0 0 r.decls

-- ---- What the rules of a body apply

by_items : (matched : SelectorParts → Bool) (l : Layer) (number n : ℕ) (items : List Item) →
    map without_place (applied_from matched number (no_meanings items) items) ≡ map declared_of (flat_map (by_item matched l) (enumerate_from n items))
by_items matched l number n [] = refl
by_items matched l number n (Rule r ∷ items) =
    map-append without_place (applied_by_decls (cascade.matching_of matched r) number 0 r.decls) (applied_from matched (suc number) (no_meanings items) items)
    ∙ ap₂ (λ (us vs : List Declared). us ++ vs) (rule_applies matched l n number r) (by_items matched l (suc number) (n + 1) items)
    ∙ sym (map-append declared_of (by_rule matched l n r) (flat_map (by_item matched l) (enumerate_from (n + 1) items)))
by_items matched l number n (KeptRule k ∷ items) = by_items matched l (suc number) (n + 1) items
by_items matched l number n (KeptBlock piece ∷ items) = by_items matched l (suc number) (n + 1) items

-- ---- The heads of entries

heads_append : (head : Option (List ℕ)) (es fs : List Entry) → AllByRecursion (λ e. e.head ≡ head) es → AllByRecursion (λ e. e.head ≡ head) fs → AllByRecursion (λ e. e.head ≡ head) (es ++ fs)
heads_append head [] fs all more = more
heads_append head (e ∷ es) fs all more = (all.0, heads_append head es fs all.1 more)

matching_heads : (l : Layer) (item : ℕ) (d : ℕ × DeclItem) (ms : List Matching) → AllByRecursion (λ e. e.head ≡ l.head) (map (entry_of l item d) ms)
matching_heads l item d [] = tt
matching_heads l item d (m ∷ ms) = (refl, matching_heads l item d ms)

decl_heads : (l : Layer) (item : ℕ) (ms : List Matching) (decls : List (ℕ × DeclItem)) → AllByRecursion (λ e. e.head ≡ l.head) (flat_map (λ d. map (entry_of l item d) ms) decls)
decl_heads l item ms [] = tt
decl_heads l item ms (d ∷ decls) =
    heads_append l.head (map (entry_of l item d) ms) (flat_map (λ x. map (entry_of l item x) ms) decls) (matching_heads l item d ms) (decl_heads l item ms decls)

item_heads : (matched : SelectorParts → Bool) (l : Layer) (x : ℕ × Item) → AllByRecursion (λ e. e.head ≡ l.head) (by_item matched l x)
item_heads matched l (n, (Rule r)) = decl_heads l n (matching_in matched l.source (enumerate_from 0 r.selectors)) (enumerate_from 0 r.decls)
item_heads matched l (n, (KeptRule k)) = tt
item_heads matched l (n, (KeptBlock piece)) = tt

layer_heads : (matched : SelectorParts → Bool) (l : Layer) (xs : List (ℕ × Item)) → AllByRecursion (λ e. e.head ≡ l.head) (flat_map (by_item matched l) xs)
layer_heads matched l [] = tt
layer_heads matched l (x ∷ xs) = heads_append l.head (by_item matched l x) (flat_map (by_item matched l) xs) (item_heads matched l x) (layer_heads matched l xs)

-- the entries under one head all apply, or none does
standing : (holds : List ℕ → Bool) (head : Option (List ℕ)) (b : Bool) → stands holds head ≡ b → (es : List Entry) → AllByRecursion (λ e. e.head ≡ head) es → filter (λ e. stands holds e.head) es ≡ cond b es []
standing holds head true is [] all = refl
standing holds head false is [] all = refl
standing holds head true is (e ∷ es) all =
    ap (λ (c : Bool). cond c (e ∷ filter (λ x. stands holds x.head) es) (filter (λ x. stands holds x.head) es)) (ap (stands holds) all.0 ∙ is)
    ∙ ap (λ (xs : List Entry). e ∷ xs) (standing holds head true is es all.1)
standing holds head false is (e ∷ es) all =
    ap (λ (c : Bool). cond c (e ∷ filter (λ x. stands holds x.head) es) (filter (λ x. stands holds x.head) es)) (ap (stands holds) all.0 ∙ is)
    ∙ standing holds head false is es all.1

-- ---- What all items apply

placeless : (n k : ℕ) (m : List Declared) → map without_place (applied_by_kept n k m) ≡ m
placeless n k [] = refl
placeless n k (d ∷ m) = ap (λ (ds : List Declared). d ∷ ds) (placeless n (suc k) m)

module _ (doc : Document) (target : Target) (source : List ℕ) (holds : List ℕ → Bool) (all : List Item) where
  abbrev matched : SelectorParts → Bool
  matched = matches doc target

  -- the entries that apply
  abbrev pub standing_in : List Entry → List Entry
  standing_in es = filter (λ e. stands holds e.head) es

  -- what kept items mean in the scene
  abbrev pub meanings : List (Option Media) → List (List Declared)
  meanings blocks = meanings_of doc target blocks (map (scene_of source holds) blocks)

  own_applies : (o : Option Media) → meaning_in doc target o (scene_of source holds o) ≡ map declared_of (standing_in (of_own matched source all o))
  own_applies None = refl
  own_applies (Some m) = which (holds (kept_text source m.head)) refl
    where
      es : List Entry
      es = of_block matched source all m

      stand : (b : Bool) → holds (kept_text source m.head) ≡ b → standing_in es ≡ cond b es []
      stand b is = standing holds (Some (kept_text source m.head)) b is es (layer_heads matched (body_layer source m) (enumerate_from 0 m.sheet.items))

      which : (b : Bool) → holds (kept_text source m.head) ≡ b → cond b (meaning_of_sheet doc target (no_meanings m.sheet.items) m.sheet.items) [] ≡ map declared_of (standing_in es)
      which true is = by_items matched (body_layer source m) 0 0 m.sheet.items ∙ sym (ap (map declared_of) (stand true is))
      which false is = sym (ap (map declared_of) (stand false is))

  -- what an item and those after it apply
  together : (os es ws : List Entry) (us ms vs : List Declared) → us ≡ map declared_of (standing_in os) → ms ≡ map declared_of (standing_in es) → vs ≡ map declared_of (standing_in ws) →
      us ++ (ms ++ vs) ≡ map declared_of (standing_in (os ++ (es ++ ws)))
  together os es ws us ms vs h i j =
      ap₂ (λ (xs ys : List Declared). xs ++ ys) h (ap₂ (λ (xs ys : List Declared). xs ++ ys) i j ∙ sym (map-append declared_of (standing_in es) (standing_in ws)) ∙ ap (map declared_of) (sym (filter-append (λ e. stands holds e.head) es ws)))
      ∙ sym (map-append declared_of (standing_in os) (standing_in (es ++ ws)))
      ∙ ap (map declared_of) (sym (filter-append (λ e. stands holds e.head) os (es ++ ws)))

  none_of : (n : ℕ) (items : List Item) → of_own matched source all (cond (list_any (is_import_item source) items) None None) ≡ []
  none_of n items = which (list_any (is_import_item source) items)
    where
      which : (b : Bool) → of_own matched source all (cond b None None) ≡ []
      which true = refl
      which false = refl

  pub applies : (n : ℕ) (items : List Item) →
      map without_place (applied_from matched n (meanings (owns source n items)) items) ≡ map declared_of (standing_in (walked matched source all n items))
  applies n [] = refl
  applies n (Rule r ∷ items) =
      let rest : List Declared = map without_place (applied_from matched (suc n) (meanings (owns source (suc n) items)) items) in
      map-append without_place (applied_by_decls (cascade.matching_of matched r) n 0 r.decls) (applied_from matched (suc n) (meanings (owns source (suc n) items)) items)
      ∙ together (by_rule matched (outer matched source all) n r) (of_own matched source all (cond (list_any (is_import_item source) items) None None)) (walked matched source all (suc n) items)
      (map without_place (applied_by_decls (cascade.matching_of matched r) n 0 r.decls)) [] rest
      (rule_applies matched (outer matched source all) n n r
      ∙ sym (ap (map declared_of) (standing holds None true refl (by_rule matched (outer matched source all) n r) (item_heads matched (outer matched source all) (n, Rule r)))))
      (ap (λ (es : List Entry). map declared_of (standing_in es)) (sym (none_of n items)))
      (applies (suc n) items)
  applies n (KeptRule k ∷ items) =
      applies (suc n) items ∙ ap (λ (es : List Entry). map declared_of (standing_in (es ++ walked matched source all (suc n) items))) (sym (none_of n items))
  applies n (KeptBlock piece ∷ items) =
      let o : Option Media = own source n (KeptBlock piece) items in
      let here : List Declared = meaning_in doc target o (scene_of source holds o) in
      map-append without_place (applied_by_kept n 0 here) (applied_from matched (suc n) (meanings (owns source (suc n) items)) items)
      ∙ ap (λ (ds : List Declared). ds ++ map without_place (applied_from matched (suc n) (meanings (owns source (suc n) items)) items)) (placeless n 0 here)
      ∙ together [] (of_own matched source all o) (walked matched source all (suc n) items) [] here (map without_place (applied_from matched (suc n) (meanings (owns source (suc n) items)) items))
      refl (own_applies o) (applies (suc n) items)
