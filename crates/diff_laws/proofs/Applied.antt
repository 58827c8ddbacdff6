-- What a sheet applies in a scene over normal values, as what occurs in it gives.
use Rattle.std.proofs.Common.{◌≡◌, ◌⊎◌, inl, inr, ℕ, suc, ◌+◌, Bool, true, false, not, List, [], ◌∷◌, ◌++◌, map, Option, None, append_assoc, refl, sym, ap, ◌∙◌}
use Rattle.std.specs.Prelude.{if◌then◌else◌, ◌||◌, ◌&&◌}
use Rattle.std.specs.List.{Contains, enumerate_from, filter, flat_map}
use Rattle.std.proofs.lemmas.List.{map-append}
use Rattle.std.proofs.lemmas.List.Elements.{filter-append}
use Rattle.cascade_laws.specs.Meaning.Meanings.{without_place}
use Rattle.css_model.specs.declared.sheet.DeclItem.{DeclItem}
use Rattle.css_model.specs.declared.sheet.Item.{Item}
use Rattle.css_model.specs.declared.sheet.Item.TheVariants.{Rule, KeptRule, KeptBlock}
use Rattle.css_model.specs.declared.sheet.SelItem.{SelItem}
use Rattle.css_model.specs.Cascade.Winner.{AppliedDeclaration, AreMeanings, Declared, Place, applied_by_decl, applied_by_decls, applied_by_kept, applied_from, matching_of}
use Rattle.css_model.specs.Documents.SelectorParts.{SelectorParts}
use Rattle.css_model.specs.Documents.Specificity.{specificity_of}
use Rattle.css_model.specs.Sheets.RuleParts.{RuleParts}
use Rattle.list_facts.proofs.Members.{Contains-nil, Contains-cons_cases}
use Rattle.sheet_members.specs.Layers.{Layer}
use Rattle.sheet_members.specs.Occurrences.{Occurrence, by_item, by_rule, pair_of, with_repeats}
use Rattle.diff_laws.specs.Scenes.{normal_decl, normal_declared}
use Rattle.diff_laws.proofs.Best.{over, over_three}
use Rattle.diff_laws.proofs.Flat.{chosen, chosen_append, flat_of, of_first, standing, stands, thinned}

-- those that do not repeat a selector of their rule
abbrev pub unrepeated : List Occurrence → List Occurrence
unrepeated os = filter (λ o. not o.repeated) os

-- an entry over normal values, without its place
abbrev pub plain : AppliedDeclaration → Declared
plain e = normal_declared (without_place e)

-- lists of declarations over normal values
abbrev pub normal_all : List (List Declared) → List (List Declared)
normal_all ps = map (map normal_declared) ps

pub kept_plain : (n k : ℕ) (m : List Declared) → map plain (applied_by_kept n k m) ≡ map normal_declared m
kept_plain n k [] = refl
kept_plain n k (d ∷ m) = ap (λ (ds : List Declared). normal_declared d ∷ ds) (kept_plain n (suc k) m)

pub plain_twice : (es : List AppliedDeclaration) → map normal_declared (map without_place es) ≡ map plain es
plain_twice [] = refl
plain_twice (e ∷ es) = ap (λ (ds : List Declared). plain e ∷ ds) (plain_twice es)

pub flat_all : (known : Declared → Bool) (xs ys : List AppliedDeclaration) → over (chosen known (map plain xs)) (chosen known (map plain ys)) ≡ chosen known (map plain (xs ++ ys))
flat_all known xs ys = sym (ap (chosen known) (map-append plain xs ys) ∙ chosen_append known (map plain xs) (map plain ys))

module _ (known : Declared → Bool) (matched : SelectorParts → Bool) (holds : List ℕ → Bool) where
  abbrev under : Option (List ℕ) → List Declared → List Declared
  under head ds = standing matched holds head ds

  abbrev flat : List Occurrence → List (List Declared) → List Declared
  flat os ps = flat_of matched holds os ps

  abbrev best : List Declared → Option Declared
  best ds = chosen known ds

  under_append : (head : Option (List ℕ)) (xs ys : List Declared) → under head (xs ++ ys) ≡ under head xs ++ under head ys
  under_append head xs ys = which (stands holds head)
    where
      which : (b : Bool) → (if b then xs ++ ys else []) ≡ (if b then xs else []) ++ (if b then ys else [])
      which true = refl
      which false = refl

  best_under : (head : Option (List ℕ)) (xs ys : List Declared) → best (under head (xs ++ ys)) ≡ over (best (under head xs)) (best (under head ys))
  best_under head xs ys = ap best (under_append head xs ys) ∙ chosen_append known (under head xs) (under head ys)

  nothing_under : (head : Option (List ℕ)) → best (under head []) ≡ None
  nothing_under head = which (stands holds head)
    where
      which : (b : Bool) → best (if b then [] else []) ≡ None
      which true = refl
      which false = refl

  -- ---- What a declaration of a rule gives

  module _ (l : Layer) (n : ℕ) (d : DeclItem) where
    -- by a selector
    abbrev pub by_one : SelectorParts → List Declared
    by_one s = under l.head (if matched s then record { decl = normal_decl d.decl; specificity = specificity_of s } ∷ [] else [])

    pub one_decl : (s : SelectorParts) (x : Declared) → Contains (by_one s) x → x.decl ≡ normal_decl d.decl
    one_decl s x among = which (stands holds l.head) (matched s) among
      where
        which : (b c : Bool) → Contains (if b then (if c then record { decl = normal_decl d.decl; specificity = specificity_of s } ∷ [] else []) else []) x → x.decl ≡ normal_decl d.decl
        which true true g = first (Contains-cons_cases (record { decl = normal_decl d.decl; specificity = specificity_of s }) [] x g)
          where
            first : (record { decl = normal_decl d.decl; specificity = specificity_of s } ≡ x) ⊎ Contains [] x → x.decl ≡ normal_decl d.decl
            first (inl e) = sym (ap (λ (y : Declared). y.decl) e)
            first (inr none) = absurd (Contains-nil x none)
        which true false g = absurd (Contains-nil x g)
        which false c g = absurd (Contains-nil x g)

    all_selectors : (ss : List SelItem) (place : Place) → flat_map (λ (s : SelItem). by_one s.selector) ss ≡ under l.head (map plain (applied_by_decl (filter matched (map (λ (s : SelItem). s.selector) ss)) place d.decl))
    all_selectors ss place = which (stands holds l.head) ss
      where
        which : (b : Bool) (ts : List SelItem) → flat_map (λ (s : SelItem). if b then (if matched s.selector then record { decl = normal_decl d.decl; specificity = specificity_of s.selector } ∷ [] else []) else []) ts
            ≡ (if b then map plain (applied_by_decl (filter matched (map (λ (s : SelItem). s.selector) ts)) place d.decl) else [])
        which true [] = refl
        which true (t ∷ ts) = sided (matched t.selector) (which true ts)
          where
            sided : (c : Bool) → flat_map (λ (s : SelItem). if matched s.selector then record { decl = normal_decl d.decl; specificity = specificity_of s.selector } ∷ [] else []) ts
                ≡ map plain (applied_by_decl (filter matched (map (λ (s : SelItem). s.selector) ts)) place d.decl) →
                (if c then record { decl = normal_decl d.decl; specificity = specificity_of t.selector } ∷ [] else [])
                ++ flat_map (λ (s : SelItem). if matched s.selector then record { decl = normal_decl d.decl; specificity = specificity_of s.selector } ∷ [] else []) ts
                ≡ map plain (applied_by_decl (if c then t.selector ∷ filter matched (map (λ (s : SelItem). s.selector) ts) else filter matched (map (λ (s : SelItem). s.selector) ts)) place d.decl)
            sided true rest = ap (λ (ds : List Declared). record { decl = normal_decl d.decl; specificity = specificity_of t.selector } ∷ ds) rest
            sided false rest = rest
        which false [] = refl
        which false (t ∷ ts) = which false ts

    first_flat : (ws : List (SelItem × Bool)) (rest : List Occurrence) (ps : List (List Declared)) →
        flat (unrepeated (map (pair_of l n d) ws) ++ rest) ps ≡ of_first known by_one (normal_decl d.decl) one_decl ws ++ flat rest ps
    first_flat [] rest ps = refl
    first_flat (w ∷ ws) rest ps = which w.1 (first_flat ws rest ps)
      where
        which : (b : Bool) → flat (unrepeated (map (pair_of l n d) ws) ++ rest) ps ≡ of_first known by_one (normal_decl d.decl) one_decl ws ++ flat rest ps →
            flat ((if not b then record (pair_of l n d w) { repeated = b } ∷ unrepeated (map (pair_of l n d) ws) else unrepeated (map (pair_of l n d) ws)) ++ rest) ps
            ≡ flat_map (λ (v : SelItem × Bool). by_one v.0.selector) (if not b then (w.0, b) ∷ filter (λ (v : SelItem × Bool). not v.1) ws else filter (λ (v : SelItem × Bool). not v.1) ws) ++ flat rest ps
        which true later = later
        which false later = ap (λ (ds : List Declared). by_one w.0.selector ++ ds) later ∙ sym (append_assoc (by_one w.0.selector) (of_first known by_one (normal_decl d.decl) one_decl ws) (flat rest ps))

    pub decl_flat : (ss : List SelItem) (place : Place) (rest : List Occurrence) (ps : List (List Declared)) →
        best (flat (unrepeated (map (pair_of l n d) (with_repeats [] ss)) ++ rest) ps)
        ≡ over (best (under l.head (map plain (applied_by_decl (filter matched (map (λ (s : SelItem). s.selector) ss)) place d.decl)))) (best (flat rest ps))
    decl_flat ss place rest ps =
        ap best (first_flat (with_repeats [] ss) rest ps)
        ∙ chosen_append known (of_first known by_one (normal_decl d.decl) one_decl (with_repeats [] ss)) (flat rest ps)
        ∙ ap (λ (o : Option Declared). over o (best (flat rest ps))) (sym (thinned known by_one (normal_decl d.decl) one_decl [] ss) ∙ ap best (all_selectors ss place))

  -- ---- What a rule gives

  module _ (l : Layer) where
    decls_flat : (n item position : ℕ) (ss : List SelItem) (ds : List DeclItem) (rest : List Occurrence) (ps : List (List Declared)) →
        best (flat (unrepeated (flat_map (λ d. map (pair_of l n d) (with_repeats [] ss)) ds) ++ rest) ps)
        ≡ over (best (under l.head (map plain (applied_by_decls (filter matched (map (λ (s : SelItem). s.selector) ss)) item position ds)))) (best (flat rest ps))
    decls_flat n item position ss [] rest ps = ap (λ (o : Option Declared). over o (best (flat rest ps))) (sym (nothing_under l.head))
    decls_flat n item position ss (d ∷ ds) rest ps =
        let matching : List SelectorParts = filter matched (map (λ (s : SelItem). s.selector) ss) in
        let place : Place = record { item = item; position = position } in
        let here : List Occurrence = map (pair_of l n d) (with_repeats [] ss) in
        let more : List Occurrence = flat_map (λ d. map (pair_of l n d) (with_repeats [] ss)) ds in
        let mine : List Declared = map plain (applied_by_decl matching place d.decl) in
        let others : List Declared = map plain (applied_by_decls matching item (suc position) ds) in
        ap (λ (os : List Occurrence). best (flat (os ++ rest) ps)) (filter-append (λ (o : Occurrence). not o.repeated) here more)
        ∙ ap (λ (os : List Occurrence). best (flat os ps)) (append_assoc (unrepeated here) (unrepeated more) rest)
        ∙ decl_flat l n d ss place (unrepeated more ++ rest) ps
        ∙ ap (over (best (under l.head mine))) (decls_flat n item (suc position) ss ds rest ps)
        ∙ over_three (best (under l.head mine)) (best (under l.head others)) (best (flat rest ps))
        ∙ ap (λ (o : Option Declared). over o (best (flat rest ps)))
        (sym (best_under l.head mine others) ∙ ap (λ (xs : List Declared). best (under l.head xs)) (sym (map-append plain (applied_by_decl matching place d.decl) (applied_by_decls matching item (suc position) ds))))

    -- two parts, and what is behind them
    joined : (xs ys : List AppliedDeclaration) (o : Option Declared) → over (best (under l.head (map plain xs))) (over (best (under l.head (map plain ys))) o) ≡ over (best (under l.head (map plain (xs ++ ys)))) o
    joined xs ys o =
        over_three (best (under l.head (map plain xs))) (best (under l.head (map plain ys))) o
        ∙ ap (λ (p : Option Declared). over p o) (sym (best_under l.head (map plain xs) (map plain ys)) ∙ ap (λ (ds : List Declared). best (under l.head ds)) (sym (map-append plain xs ys)))

    -- a rule before other occurrences
    pub rule_flat : (n k : ℕ) (r : RuleParts) (more rest : List Occurrence) (ps : List (List Declared)) →
        best (flat (unrepeated (by_rule l n r ++ more) ++ rest) ps) ≡ over (best (under l.head (map plain (applied_by_decls (matching_of matched r) k 0 r.decls)))) (best (flat (unrepeated more ++ rest) ps))
    rule_flat n k r more rest ps =
        ap (λ (os : List Occurrence). best (flat (os ++ rest) ps)) (filter-append (λ (o : Occurrence). not o.repeated) (by_rule l n r) more)
        ∙ ap (λ (os : List Occurrence). best (flat os ps)) (append_assoc (unrepeated (by_rule l n r)) (unrepeated more) rest)
        ∙ decls_flat n k 0 r.selectors r.decls (unrepeated more ++ rest) ps

    -- a kept item with what it applies, before other occurrences
    pub kept_flat : (k : ℕ) (m : List Declared) (os : List Occurrence) (ps : List (List Declared)) →
        best (under l.head (map normal_declared m) ++ flat os ps) ≡ over (best (under l.head (map plain (applied_by_kept k 0 m)))) (best (flat os ps))
    kept_flat k m os ps =
        chosen_append known (under l.head (map normal_declared m)) (flat os ps)
        ∙ ap (λ (ds : List Declared). over (best (under l.head ds)) (best (flat os ps))) (sym (kept_plain k 0 m))

    -- ---- What the items of a layer give, none of which is opened

    abbrev of_layer : ℕ → List Item → List Occurrence
    of_layer n items = flat_map (by_item l) (enumerate_from n items)

    pub layer_flat : (n k : ℕ) (items : List Item) (ms : List (List Declared)) → AreMeanings items ms → (rest : List Occurrence) (ps : List (List Declared)) →
        best (flat (unrepeated (of_layer n items) ++ rest) (normal_all ms ++ ps)) ≡ over (best (under l.head (map plain (applied_from matched k ms items)))) (best (flat rest ps))
    layer_flat n k [] [] are rest ps = ap (λ (o : Option Declared). over o (best (flat rest ps))) (sym (nothing_under l.head))
    layer_flat n k [] (m ∷ ms) are rest ps = absurd are
    layer_flat n k (Rule r ∷ items) ms are rest ps =
        rule_flat n k r (of_layer (n + 1) items) rest (normal_all ms ++ ps)
        ∙ ap (over (best (under l.head (map plain (applied_by_decls (matching_of matched r) k 0 r.decls))))) (layer_flat (n + 1) (suc k) items ms are rest ps)
        ∙ joined (applied_by_decls (matching_of matched r) k 0 r.decls) (applied_from matched (suc k) ms items) (best (flat rest ps))
    layer_flat n k (KeptRule q ∷ items) [] are rest ps = absurd are
    layer_flat n k (KeptRule q ∷ items) (m ∷ ms) are rest ps =
        kept_flat k m (unrepeated (of_layer (n + 1) items) ++ rest) (normal_all ms ++ ps)
        ∙ ap (over (best (under l.head (map plain (applied_by_kept k 0 m))))) (layer_flat (n + 1) (suc k) items ms are.1 rest ps)
        ∙ joined (applied_by_kept k 0 m) (applied_from matched (suc k) ms items) (best (flat rest ps))
    layer_flat n k (KeptBlock piece ∷ items) [] are rest ps = absurd are
    layer_flat n k (KeptBlock piece ∷ items) (m ∷ ms) are rest ps =
        kept_flat k m (unrepeated (of_layer (n + 1) items) ++ rest) (normal_all ms ++ ps)
        ∙ ap (over (best (under l.head (map plain (applied_by_kept k 0 m))))) (layer_flat (n + 1) (suc k) items ms are rest ps)
        ∙ joined (applied_by_kept k 0 m) (applied_from matched (suc k) ms items) (best (flat rest ps))
