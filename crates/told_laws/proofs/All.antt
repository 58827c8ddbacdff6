-- What all occurrences of a sheet give: those that repeat a selector of their rule give nothing more.
use Rattle.std.proofs.Common.{◌≡◌, ℕ, ◌+◌, Bool, true, false, not, List, [], ◌∷◌, ◌++◌, map, Option, Some, None, refl, sym, ap, ap₂, ◌∙◌}
use Rattle.std.specs.Prelude.{if◌then◌else◌}
use Rattle.std.specs.List.{enumerate_from, filter, flat_map}
use Rattle.std.proofs.lemmas.List.Elements.{filter-append}
use Rattle.std.proofs.lemmas.Grind.{flat_map-append}
use Rattle.css_model.specs.declared.sheet.DeclItem.{DeclItem}
use Rattle.css_model.specs.declared.sheet.Item.{Item}
use Rattle.css_model.specs.declared.sheet.Item.TheVariants.{Rule, KeptRule, KeptBlock}
use Rattle.css_model.specs.declared.sheet.SelItem.{SelItem}
use Rattle.css_model.specs.Cascade.Winner.{Declared}
use Rattle.css_model.specs.Documents.SelectorParts.{SelectorParts}
use Rattle.diff_laws.specs.Scenes.{normal_decl}
use Rattle.diff_laws.proofs.ForCallers.{by_one, chosen, chosen_append, given, of_first, one_decl, over, thinned, unrepeated}
use Rattle.sheet_members.specs.Labels.{label_of}
use Rattle.sheet_members.specs.Layers.{Layer, body_at}
use Rattle.sheet_members.specs.Occurrences.{Occurrence, by_item, by_opened, by_outer_item, pair_of, with_repeats}

module _ (known : Declared → Bool) (matched : SelectorParts → Bool) (holds : List ℕ → Bool) where
  -- what pairs among these give
  abbrev pub pairs_give : List Occurrence → List Declared
  pairs_give os = flat_map (λ (o : Occurrence). given matched holds (label_of o)) os

  -- without those that repeat a selector these give the same
  abbrev pub IsAll : List Occurrence → Type 0
  IsAll os = chosen known (pairs_give os) ≡ chosen known (pairs_give (unrepeated os))

  all_append : (os ps : List Occurrence) → IsAll os → IsAll ps → IsAll (os ++ ps)
  all_append os ps h g =
      split os ps ∙ ap₂ over h g ∙ sym (split (unrepeated os) (unrepeated ps)) ∙ ap (λ (xs : List Occurrence). chosen known (pairs_give xs)) (sym (filter-append (λ (o : Occurrence). not o.repeated) os ps))
    where
      split : (xs ys : List Occurrence) → chosen known (pairs_give (xs ++ ys)) ≡ over (chosen known (pairs_give xs)) (chosen known (pairs_give ys))
      split xs ys =
          ap (chosen known) (flat_map-append (λ (o : Occurrence). given matched holds (label_of o)) xs ys) ∙ chosen_append known (pairs_give xs) (pairs_give ys)

  -- ---- Of a declaration

  module _ (l : Layer) (n : ℕ) (d : DeclItem) where
    abbrev one : SelectorParts → List Declared
    one s = by_one known matched holds l n d s

    erased : (before ss : List SelItem) → pairs_give (map (pair_of l n d) (with_repeats before ss)) ≡ flat_map (λ (s : SelItem). one s.selector) ss
    erased before [] = refl
    erased before (s ∷ ss) = ap (λ (ds : List Declared). one s.selector ++ ds) (erased (before ++ s ∷ []) ss)

    first_ones : (ws : List (SelItem × Bool)) → pairs_give (unrepeated (map (pair_of l n d) ws)) ≡ of_first known one (normal_decl d.decl) (one_decl known matched holds l n d) ws
    first_ones [] = refl
    first_ones (w ∷ ws) = which w.1 (first_ones ws)
      where
        which : (b : Bool) → pairs_give (unrepeated (map (pair_of l n d) ws)) ≡ of_first known one (normal_decl d.decl) (one_decl known matched holds l n d) ws →
            pairs_give (if not b then record (pair_of l n d w) { repeated = b } ∷ unrepeated (map (pair_of l n d) ws) else unrepeated (map (pair_of l n d) ws))
            ≡ flat_map (λ (v : SelItem × Bool). one v.0.selector) (if not b then (w.0, b) ∷ filter (λ (v : SelItem × Bool). not v.1) ws else filter (λ (v : SelItem × Bool). not v.1) ws)
        which true later = later
        which false later = ap (λ (ds : List Declared). one w.0.selector ++ ds) later

    decl_all : (ss : List SelItem) → IsAll (map (pair_of l n d) (with_repeats [] ss))
    decl_all ss =
        ap (chosen known) (erased [] ss) ∙ thinned known one (normal_decl d.decl) (one_decl known matched holds l n d) [] ss ∙ ap (chosen known) (sym (first_ones (with_repeats [] ss)))

  -- ---- Of items

  decls_all : (l : Layer) (n : ℕ) (ss : List SelItem) (ds : List DeclItem) → IsAll (flat_map (λ d. map (pair_of l n d) (with_repeats [] ss)) ds)
  decls_all l n ss [] = refl
  decls_all l n ss (d ∷ ds) =
      all_append (map (pair_of l n d) (with_repeats [] ss)) (flat_map (λ d. map (pair_of l n d) (with_repeats [] ss)) ds) (decl_all l n d ss) (decls_all l n ss ds)

  item_all : (l : Layer) (n : ℕ) (item : Item) → IsAll (by_item l (n, item))
  item_all l n (Rule r) = decls_all l n r.selectors r.decls
  item_all l n (KeptRule k) = refl
  item_all l n (KeptBlock piece) = refl

  items_all : (l : Layer) (n : ℕ) (items : List Item) → IsAll (flat_map (by_item l) (enumerate_from n items))
  items_all l n [] = refl
  items_all l n (item ∷ items) = all_append (by_item l (n, item)) (flat_map (by_item l) (enumerate_from (n + 1) items)) (item_all l n item) (items_all l (n + 1) items)

  outer_item_all : (bodies : List Layer) (l : Layer) (n : ℕ) (item : Item) → IsAll (by_outer_item bodies l (n, item))
  outer_item_all bodies l n (Rule r) = item_all l n (Rule r)
  outer_item_all bodies l n (KeptRule k) = refl
  outer_item_all bodies l n (KeptBlock piece) = which (body_at bodies n)
    where
      which : (o : Option Layer) → IsAll (by_opened l (n, KeptBlock piece) o)
      which None = refl
      which (Some body) = items_all body 0 body.items

  pub outer_all : (bodies : List Layer) (l : Layer) (n : ℕ) (items : List Item) → IsAll (flat_map (by_outer_item bodies l) (enumerate_from n items))
  outer_all bodies l n [] = refl
  outer_all bodies l n (item ∷ items) =
      all_append (by_outer_item bodies l (n, item)) (flat_map (by_outer_item bodies l) (enumerate_from (n + 1) items)) (outer_item_all bodies l n item) (outer_all bodies l (n + 1) items)
