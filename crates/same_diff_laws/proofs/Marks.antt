-- Where the kept items of a sheet are, by its kept items alone: two sheets whose kept items say the same have them at the same places.
use Rattle.std.proofs.Common.{◌≡◌, ◌⊎◌, ℕ, suc, ◌+◌, Bool, false, List, [], ◌∷◌, ◌++◌, map, Option, Some, None, option_map, refl, ap, ap₂, ◌∙◌}
use Rattle.std.specs.Prelude.{if◌then◌else◌}
use Rattle.std.proofs.lemmas.Bool.{false≢true, true≢false}
use Rattle.css_model.specs.declared.sheet.DeclItem.{DeclItem}
use Rattle.css_model.specs.declared.sheet.Item.{Item}
use Rattle.css_model.specs.declared.sheet.Item.TheVariants.{Rule, KeptRule, KeptBlock}
use Rattle.css_model.specs.declared.sheet.SelItem.{SelItem}
use Rattle.css_model.specs.Sheets.KeptItems.{kept_items}
use Rattle.normal_text.specs.Normal.{normal_kept}
use Rattle.sheet_members.specs.Labels.{Label, label_with}
use Rattle.sheet_members.specs.Layers.{Layer}
use Rattle.sheet_members.specs.Occurrences.{Kept, Part, Paired, item_text, with_repeats}
use Rattle.same_diff_laws.proofs.Lasting.{Mark, label_at, marks, with_mark}
use Rattle.same_diff_laws.proofs.Spots.{Spotted, behind_first, below, block_in, decl_spot, decl_spots, kept_spots, spots}

abbrev pub mark_below : ℕ → Mark → Mark
mark_below n m = record { spot = n ∷ m.spot; label = m.label }

-- the label of a kept item under a head
abbrev pub kept_label : (head : Option (List ℕ)) → (source : List ℕ) → Item → Label
kept_label head source item = label_with head (Kept item) false (normal_kept (item_text source item))

abbrev pub entry_marks : (head : Option (List ℕ)) → (source : List ℕ) → ℕ → Item → Option (List Mark) → List Mark
entry_marks head source k item None = record { spot = suc (k + k) ∷ []; label = kept_label head source item } ∷ []
entry_marks head source k item (Some ms) = map (mark_below (suc (k + k))) ms

-- those of kept items, among which there are these bodies
abbrev pub kept_marks : (head : Option (List ℕ)) → (source : List ℕ) → ℕ → List Item → List (Option (List Spotted)) → List Mark
kept_marks head source k [] bs = []
kept_marks head source k (item ∷ items) bs = entry_marks head source k item (option_map marks (block_in bs 0)) ++ kept_marks head source (suc k) items (behind_first bs)

marks_append : (xs ys : List Spotted) → marks (xs ++ ys) ≡ marks xs ++ marks ys
marks_append [] ys = refl
marks_append (x ∷ xs) ys = which x.occurrence.part (marks_append xs ys)
  where
    which : (q : Part) → marks (xs ++ ys) ≡ marks xs ++ marks ys → with_mark q x (marks (xs ++ ys)) ≡ with_mark q x (marks xs) ++ marks ys
    which (Paired s d) e = e
    which (Kept item) e = ap (λ (ms : List Mark). record { spot = x.spot; label = label_at x } ∷ ms) e

marks_below : (n : ℕ) (zs : List Spotted) → marks (map (below n) zs) ≡ map (mark_below n) (marks zs)
marks_below n [] = refl
marks_below n (z ∷ zs) = which z.occurrence.part (marks_below n zs)
  where
    which : (q : Part) → marks (map (below n) zs) ≡ map (mark_below n) (marks zs) → with_mark q (below n z) (marks (map (below n) zs)) ≡ map (mark_below n) (with_mark q z (marks zs))
    which (Paired s d) e = e
    which (Kept item) e = ap (λ (ms : List Mark). record { spot = n ∷ z.spot; label = label_at z } ∷ ms) e

module _ (l : Layer) where
  no_mark : (run n position : ℕ) (d : DeclItem) (ws : List (SelItem × Bool)) → marks (map (decl_spot l run n position d) ws) ≡ []
  no_mark run n position d [] = refl
  no_mark run n position d (w ∷ ws) = no_mark run n position d ws

  no_marks : (run n position : ℕ) (ss : List SelItem) (decls : List DeclItem) → marks (decl_spots l run n position ss decls) ≡ []
  no_marks run n position ss [] = refl
  no_marks run n position ss (d ∷ decls) =
      marks_append (map (decl_spot l run n position d) (with_repeats [] ss)) (decl_spots l run n (suc position) ss decls)
      ∙ ap₂ (λ (xs ys : List Mark). xs ++ ys) (no_mark run n position d (with_repeats [] ss)) (no_marks run n (suc position) ss decls)

  entry_is : (k n : ℕ) (item : Item) (b : Option (List Spotted)) → marks (kept_spots l k n item b) ≡ entry_marks l.head l.source k item (option_map marks b)
  entry_is k n item None = refl
  entry_is k n item (Some zs) = marks_below (suc (k + k)) zs

  with_entry : (k n : ℕ) (item : Item) (bs : List (Option (List Spotted))) (zs : List Spotted) (ms : List Mark) → marks zs ≡ ms →
      marks (kept_spots l k n item (block_in bs 0) ++ zs) ≡ entry_marks l.head l.source k item (option_map marks (block_in bs 0)) ++ ms
  with_entry k n item bs zs ms e = marks_append (kept_spots l k n item (block_in bs 0)) zs ∙ ap₂ (λ (xs ys : List Mark). xs ++ ys) (entry_is k n item (block_in bs 0)) e

  pub marks_are : (k n : ℕ) (items : List Item) (bs : List (Option (List Spotted))) → marks (spots l k n items bs) ≡ kept_marks l.head l.source k (kept_items items) bs
  marks_are k n [] bs = refl
  marks_are k n (Rule r ∷ items) bs =
      marks_append (decl_spots l (k + k) n 0 r.selectors r.decls) (spots l k (n + 1) items bs)
      ∙ ap₂ (λ (xs ys : List Mark). xs ++ ys) (no_marks (k + k) n 0 r.selectors r.decls) (marks_are k (n + 1) items bs)
  marks_are k n (KeptRule q ∷ items) bs =
      with_entry k n (KeptRule q) bs (spots l (suc k) (n + 1) items (behind_first bs)) (kept_marks l.head l.source (suc k) (kept_items items) (behind_first bs)) (marks_are (suc k) (n + 1) items (behind_first bs))
  marks_are k n (KeptBlock p ∷ items) bs =
      with_entry k n (KeptBlock p) bs (spots l (suc k) (n + 1) items (behind_first bs)) (kept_marks l.head l.source (suc k) (kept_items items) (behind_first bs)) (marks_are (suc k) (n + 1) items (behind_first bs))
