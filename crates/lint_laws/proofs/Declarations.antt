-- What a sheet applies, as declarations without their places.
use Rattle.std.proofs.Common.{◌≡◌, ℕ, suc, Bool, true, false, not, cond, List, [], ◌∷◌, ◌++◌, map, refl, sym, ap, ap₂, ◌∙◌}
use Rattle.std.specs.List.{filter, flat_map}
use Rattle.std.proofs.lemmas.Bool.{cond-false}
use Rattle.std.proofs.lemmas.List.{map-append}
use Rattle.cascade_laws.specs.Meaning.Meanings.{without_place}
use Rattle.css_model.specs.declared.sheet.Decl.{Decl}
use Rattle.css_model.specs.declared.sheet.DeclItem.{DeclItem}
use Rattle.css_model.specs.declared.sheet.Item.{Item}
use Rattle.css_model.specs.declared.sheet.Item.TheVariants.{Rule, KeptRule, KeptBlock}
use Rattle.css_model.specs.declared.sheet.SelItem.{SelItem}
use Rattle.css_model.specs.Cascade.Winner.{Declared, Place, applied_by_decl, applied_by_decls, applied_by_kept, applied_from, matching_of}
use Rattle.css_model.specs.Documents.SelectorParts.{SelectorParts}
use Rattle.css_model.specs.Documents.Specificity.{specificity_of}
use Rattle.css_model.specs.Sheets.RuleParts.{RuleParts}
use Rattle.order_laws.specs.Places.{PlacedPair}
use Rattle.lint_laws.specs.Cleaned.{alive_selectors, items_without, single_decls, with_rule}

-- a declaration as a selector applies it
abbrev pub entry : Decl → SelectorParts → Declared
entry d s = record { decl = d; specificity = specificity_of s }

-- a declaration as these selectors apply it
abbrev pub declared_by : List SelectorParts → Decl → List Declared
declared_by matching d = map (entry d) matching

-- the declarations of a rule of which these selectors match
abbrev pub declared_rule : List SelectorParts → List DeclItem → List Declared
declared_rule matching decls = flat_map (λ d. declared_by matching d.decl) decls

-- what items apply
abbrev pub declared_in : (SelectorParts → Bool) → List (List Declared) → List Item → List Declared
declared_in matched meanings [] = []
declared_in matched meanings (Rule rule ∷ items) = declared_rule (matching_of matched rule) rule.decls ++ declared_in matched meanings items
declared_in matched [] (KeptRule kept ∷ items) = declared_in matched [] items
declared_in matched (m ∷ meanings) (KeptRule kept ∷ items) = m ++ declared_in matched meanings items
declared_in matched [] (KeptBlock piece ∷ items) = declared_in matched [] items
declared_in matched (m ∷ meanings) (KeptBlock piece ∷ items) = m ++ declared_in matched meanings items

-- ---- It is what is applied, without places

pub placeless : (n k : ℕ) (m : List Declared) → map without_place (applied_by_kept n k m) ≡ m
placeless n k [] = refl
placeless n k (d ∷ m) = ap (λ (ds : List Declared). d ∷ ds) (placeless n (suc k) m)

one : (matching : List SelectorParts) (place : Place) (d : Decl) → map without_place (applied_by_decl matching place d) ≡ declared_by matching d
one [] place d = refl
one (s ∷ matching) place d = ap (λ (ds : List Declared). entry d s ∷ ds) (one matching place d)

some : (matching : List SelectorParts) (item position : ℕ) (decls : List DeclItem) → map without_place (applied_by_decls matching item position decls) ≡ declared_rule matching decls
some matching item position [] = refl
some matching item position (d ∷ decls) =
    map-append without_place (applied_by_decl matching (record { item = item; position = position }) d.decl) (applied_by_decls matching item (suc position) decls)
    ∙ ap₂ (λ (us vs : List Declared). us ++ vs) (one matching (record { item = item; position = position }) d.decl) (some matching item (suc position) decls)

pub all : (matched : SelectorParts → Bool) (n : ℕ) (meanings : List (List Declared)) (items : List Item) → map without_place (applied_from matched n meanings items) ≡ declared_in matched meanings items
all matched n meanings [] = refl
all matched n meanings (Rule rule ∷ items) =
    map-append without_place (applied_by_decls (matching_of matched rule) n 0 rule.decls) (applied_from matched (suc n) meanings items)
    ∙ ap₂ (λ (us vs : List Declared). us ++ vs) (some (matching_of matched rule) n 0 rule.decls) (all matched (suc n) meanings items)
all matched n [] (KeptRule kept ∷ items) = all matched (suc n) [] items
all matched n (m ∷ meanings) (KeptRule kept ∷ items) =
    map-append without_place (applied_by_kept n 0 m) (applied_from matched (suc n) meanings items)
    ∙ ap₂ (λ (us vs : List Declared). us ++ vs) (placeless n 0 m) (all matched (suc n) meanings items)
all matched n [] (KeptBlock piece ∷ items) = all matched (suc n) [] items
all matched n (m ∷ meanings) (KeptBlock piece ∷ items) =
    map-append without_place (applied_by_kept n 0 m) (applied_from matched (suc n) meanings items)
    ∙ ap₂ (λ (us vs : List Declared). us ++ vs) (placeless n 0 m) (all matched (suc n) meanings items)

-- ---- What a cleaned rule applies

-- without a selector that matches nothing is applied
none_matching : (decls : List DeclItem) → declared_rule [] decls ≡ []
none_matching [] = refl
none_matching (d ∷ decls) = none_matching decls

of_rule : (matched : SelectorParts → Bool) (meanings : List (List Declared)) (selectors : List SelItem) (decls : List DeclItem) (items : List Item) →
    declared_in matched meanings (with_rule selectors decls items) ≡ declared_rule (filter matched (map (λ s. s.selector) selectors)) decls ++ declared_in matched meanings items
of_rule matched meanings [] decls items = ap (λ (ds : List Declared). ds ++ declared_in matched meanings items) (sym (none_matching decls))
of_rule matched meanings (s ∷ selectors) [] items = refl
of_rule matched meanings (s ∷ selectors) (d ∷ decls) items = refl

-- a test that no dead selector passes
abbrev pub PassesNoneDead : (dead matched : SelectorParts → Bool) → Type 0
PassesNoneDead dead matched = (s : SelectorParts) → dead s ≡ true → matched s ≡ false

-- the selectors that match are alive
alive_match : (dead matched : SelectorParts → Bool) → PassesNoneDead dead matched → (selectors : List SelItem) →
    filter matched (map (λ s. s.selector) (alive_selectors dead selectors)) ≡ filter matched (map (λ s. s.selector) selectors)
alive_match dead matched quiet [] = refl
alive_match dead matched quiet (s ∷ selectors) = which (dead s.selector) refl (alive_match dead matched quiet selectors)
  where
    which : (b : Bool) → dead s.selector ≡ b →
        filter matched (map (λ t. t.selector) (alive_selectors dead selectors)) ≡ filter matched (map (λ t. t.selector) selectors) →
        filter matched (map (λ t. t.selector) (cond (not b) (s ∷ alive_selectors dead selectors) (alive_selectors dead selectors)))
        ≡ cond (matched s.selector) (s.selector ∷ filter matched (map (λ t. t.selector) selectors)) (filter matched (map (λ t. t.selector) selectors))
    which true h rest =
        rest ∙ sym (cond-false (matched s.selector) (s.selector ∷ filter matched (map (λ (t : SelItem). t.selector) selectors)) (filter matched (map (λ (t : SelItem). t.selector) selectors)) (quiet s.selector h))
    which false h rest = ap (λ (ss : List SelectorParts). cond (matched s.selector) (s.selector ∷ ss) ss) rest

-- what a cleaned rule applies, before the items behind it
pub of_cleaned : (dead matched : SelectorParts → Bool) → PassesNoneDead dead matched → (lasts : List PlacedPair) (n : ℕ) (meanings : List (List Declared)) (r : RuleParts) (items : List Item) →
    declared_in matched meanings (items_without dead lasts n (Rule r ∷ items))
    ≡ declared_rule (matching_of matched r) (single_decls lasts n r.selectors 0 r.decls) ++ declared_in matched meanings (items_without dead lasts (suc n) items)
of_cleaned dead matched quiet lasts n meanings r items =
    of_rule matched meanings (alive_selectors dead r.selectors) (single_decls lasts n r.selectors 0 r.decls) (items_without dead lasts (suc n) items)
    ∙ ap (λ (ss : List SelectorParts). declared_rule ss (single_decls lasts n r.selectors 0 r.decls) ++ declared_in matched meanings (items_without dead lasts (suc n) items))
    (alive_match dead matched quiet r.selectors)
