-- Where what occurs in a sheet is: numbers by which two sheets compare. A kept item that is the k-th of both has the same in both.
use Rattle.std.proofs.Common.{◌≡◌, ◌⊎◌, inl, inr, ℕ, zero, suc, ◌+◌, ◌<◌, ◌≤◌, Bool, List, [], ◌∷◌, ◌++◌, map, Option, Some, None, option_map, refl, sym, ap, ap₂, ◌∙◌, subst, arith}
use Rattle.std.specs.Prelude.{IfSome}
use Rattle.std.specs.List.{AllByRecursion, enumerate_from, flat_map}
use Rattle.std.proofs.lemmas.List.{map-append}
use Rattle.css_model.specs.declared.sheet.DeclItem.{DeclItem}
use Rattle.css_model.specs.declared.sheet.Item.{Item}
use Rattle.css_model.specs.declared.sheet.Item.TheVariants.{Rule, KeptRule, KeptBlock}
use Rattle.css_model.specs.declared.sheet.SelItem.{SelItem}
use Rattle.diff_laws.proofs.ForCallers.{Tally}
use Rattle.list_facts.proofs.Elements.{all_with}
use Rattle.media_groups.specs.declared.media.Media.{Media}
use Rattle.sheet_members.specs.Layers.{Layer, body_at, body_layer}
use Rattle.sheet_members.specs.Occurrences.{Occurrence, Paired, by_item, by_opened, by_outer_item, kept_of, pair_of, with_repeats}

-- an occurrence, and the numbers of its place, of which the first that differs decides
pub record Spotted : Type 0 where
  pub spot : List ℕ
  pub occurrence : Occurrence

abbrev pub occurs : List Spotted → List Occurrence
occurs zs = map (λ (z : Spotted). z.occurrence) zs

abbrev pub below : ℕ → Spotted → Spotted
below n z = record { spot = n ∷ z.spot; occurrence = z.occurrence }

-- the block of a number, if there is one
abbrev pub block_in : List (Option (List Spotted)) → ℕ → Option (List Spotted)
block_in [] j = None
block_in (b ∷ bs) zero = b
block_in (b ∷ bs) (suc j) = block_in bs j

abbrev pub behind_first : List (Option (List Spotted)) → List (Option (List Spotted))
behind_first [] = []
behind_first (b ∷ bs) = bs

-- Those of a layer, before whose items there are so many kept ones, and the first of which has this number. A rule is between two
-- kept items. In the place of a block that is opened there is what is in its body.
module _ (l : Layer) where
  abbrev pub decl_spot : (run n position : ℕ) → DeclItem → SelItem × Bool → Spotted
  decl_spot run n position d w = record { spot = run ∷ n ∷ position ∷ []; occurrence = pair_of l n d w }

  abbrev pub decl_spots : (run n position : ℕ) → List SelItem → List DeclItem → List Spotted
  decl_spots run n position ss [] = []
  decl_spots run n position ss (d ∷ decls) = map (decl_spot run n position d) (with_repeats [] ss) ++ decl_spots run n (suc position) ss decls

  abbrev pub kept_spots : (k n : ℕ) → Item → Option (List Spotted) → List Spotted
  kept_spots k n item None = record { spot = suc (k + k) ∷ []; occurrence = kept_of l n item } ∷ []
  kept_spots k n item (Some zs) = map (below (suc (k + k))) zs

  abbrev pub spots : (k n : ℕ) → List Item → List (Option (List Spotted)) → List Spotted
  spots k n [] bs = []
  spots k n (Rule r ∷ items) bs = decl_spots (k + k) n 0 r.selectors r.decls ++ spots k (n + 1) items bs
  spots k n (KeptRule q ∷ items) bs = kept_spots k n (KeptRule q) (block_in bs 0) ++ spots (suc k) (n + 1) items (behind_first bs)
  spots k n (KeptBlock p ∷ items) bs = kept_spots k n (KeptBlock p) (block_in bs 0) ++ spots (suc k) (n + 1) items (behind_first bs)

  -- ---- They are what occurs

  decl_occurs : (run n position : ℕ) (d : DeclItem) (ws : List (SelItem × Bool)) → occurs (map (decl_spot run n position d) ws) ≡ map (pair_of l n d) ws
  decl_occurs run n position d [] = refl
  decl_occurs run n position d (w ∷ ws) = ap (λ (os : List Occurrence). pair_of l n d w ∷ os) (decl_occurs run n position d ws)

  decls_occur : (run n position : ℕ) (ss : List SelItem) (decls : List DeclItem) → occurs (decl_spots run n position ss decls) ≡ flat_map (λ d. map (pair_of l n d) (with_repeats [] ss)) decls
  decls_occur run n position ss [] = refl
  decls_occur run n position ss (d ∷ decls) =
      map-append (λ (z : Spotted). z.occurrence) (map (decl_spot run n position d) (with_repeats [] ss)) (decl_spots run n (suc position) ss decls)
      ∙ ap₂ (λ (xs ys : List Occurrence). xs ++ ys) (decl_occurs run n position d (with_repeats [] ss)) (decls_occur run n (suc position) ss decls)

  both_occur : (xs ys : List Spotted) (os ps : List Occurrence) → occurs xs ≡ os → occurs ys ≡ ps → occurs (xs ++ ys) ≡ os ++ ps
  both_occur xs ys os ps h g = map-append (λ (z : Spotted). z.occurrence) xs ys ∙ ap₂ (λ (xs ys : List Occurrence). xs ++ ys) h g

  pub bodies_occur : (k n : ℕ) (items : List Item) → occurs (spots k n items []) ≡ flat_map (by_item l) (enumerate_from n items)
  bodies_occur k n [] = refl
  bodies_occur k n (Rule r ∷ items) =
      both_occur (decl_spots (k + k) n 0 r.selectors r.decls) (spots k (n + 1) items []) (by_item l (n, Rule r)) (flat_map (by_item l) (enumerate_from (n + 1) items))
      (decls_occur (k + k) n 0 r.selectors r.decls) (bodies_occur k (n + 1) items)
  bodies_occur k n (KeptRule q ∷ items) = ap (λ (os : List Occurrence). kept_of l n (KeptRule q) ∷ os) (bodies_occur (suc k) (n + 1) items)
  bodies_occur k n (KeptBlock p ∷ items) = ap (λ (os : List Occurrence). kept_of l n (KeptBlock p) ∷ os) (bodies_occur (suc k) (n + 1) items)

-- those of the body of an opened block
abbrev pub body_spots : (source : List ℕ) → Media → List Spotted
body_spots source m = spots (body_layer source m) 0 0 m.sheet.items []

abbrev pub blocks : (source : List ℕ) → List (Option Media) → List (Option (List Spotted))
blocks source os = map (option_map (body_spots source)) os

below_occurs : (n : ℕ) (zs : List Spotted) → occurs (map (below n) zs) ≡ occurs zs
below_occurs n [] = refl
below_occurs n (z ∷ zs) = ap (λ (os : List Occurrence). z.occurrence ∷ os) (below_occurs n zs)

module _ (source : List ℕ) (bodies : List Layer) (l : Layer) where
  opened_occurs : (k n : ℕ) (item : Item) (o : Option Media) → by_item l (n, item) ≡ kept_of l n item ∷ [] → occurs (kept_spots l k n item (option_map (body_spots source) o)) ≡ by_opened l (n, item) (option_map (body_layer source) o)
  opened_occurs k n item None one = sym one
  opened_occurs k n item (Some m) one = below_occurs (suc (k + k)) (body_spots source m) ∙ bodies_occur (body_layer source m) 0 0 m.sheet.items

  pub all_occur : (k n : ℕ) (items : List Item) (os : List (Option Media)) → Tally source bodies n items os → occurs (spots l k n items (blocks source os)) ≡ flat_map (by_outer_item bodies l) (enumerate_from n items)
  all_occur k n [] [] h = refl
  all_occur k n [] (o ∷ os) h = absurd h
  all_occur k n (Rule r ∷ items) os h =
      both_occur l (decl_spots l (k + k) n 0 r.selectors r.decls) (spots l k (n + 1) items (blocks source os)) (by_item l (n, Rule r)) (flat_map (by_outer_item bodies l) (enumerate_from (n + 1) items))
      (decls_occur l (k + k) n 0 r.selectors r.decls) (all_occur k (n + 1) items os h)
  all_occur k n (KeptRule q ∷ items) [] h = absurd h
  all_occur k n (KeptRule q ∷ items) (o ∷ os) h =
      both_occur l (kept_spots l k n (KeptRule q) (option_map (body_spots source) o)) (spots l (suc k) (n + 1) items (blocks source os)) (by_item l (n, KeptRule q)) (flat_map (by_outer_item bodies l) (enumerate_from (n + 1) items))
      (ap (λ (p : Option Media). occurs (kept_spots l k n (KeptRule q) (option_map (body_spots source) p))) h.0) (all_occur (suc k) (n + 1) items os h.1)
  all_occur k n (KeptBlock p ∷ items) [] h = absurd h
  all_occur k n (KeptBlock p ∷ items) (o ∷ os) h =
      both_occur l (kept_spots l k n (KeptBlock p) (option_map (body_spots source) o)) (spots l (suc k) (n + 1) items (blocks source os)) (by_opened l (n, KeptBlock p) (body_at bodies n)) (flat_map (by_outer_item bodies l) (enumerate_from (n + 1) items))
      (opened_occurs k n (KeptBlock p) o refl ∙ ap (by_opened l (n, KeptBlock p)) (sym h.0)) (all_occur (suc k) (n + 1) items os h.1)

-- ---- In their order

abbrev pub Less : List ℕ → List ℕ → Type 0
Less [] ys = ⊥
Less (x ∷ xs) [] = ⊥
Less (x ∷ xs) (y ∷ ys) = (x < y) ⊎ ((x ≡ y) × Less xs ys)

-- two pairs of one declaration
pub record OneDecl (o o' : Occurrence) : Type 0 where
  pub selector : SelItem
  pub other : SelItem
  pub decl : DeclItem
  pub first : o.part ≡ Paired selector decl
  pub second : o'.part ≡ Paired other decl
  pub text : o.text ≡ o'.text

-- one is before another one, or both are of one declaration
abbrev pub NotPast : Spotted → Spotted → Type 0
NotPast z y = Less z.spot y.spot ⊎ ((z.spot ≡ y.spot) × OneDecl z.occurrence y.occurrence)

abbrev pub Ascends : List Spotted → Type 0
Ascends [] = Unit {0}
Ascends (z ∷ zs) = AllByRecursion (NotPast z) zs × Ascends zs

all_append : (P : Spotted → Type 0) (xs ys : List Spotted) → AllByRecursion P xs → AllByRecursion P ys → AllByRecursion P (xs ++ ys)
all_append P [] ys all more = more
all_append P (x ∷ xs) ys all more = (all.0, all_append P xs ys all.1 more)

ascend_append : (P Q : Spotted → Type 0) → ((z y : Spotted) → P z → Q y → NotPast z y) → (xs ys : List Spotted) → Ascends xs → Ascends ys → AllByRecursion P xs → AllByRecursion Q ys → Ascends (xs ++ ys)
ascend_append P Q before [] ys up more p q = more
ascend_append P Q before (x ∷ xs) ys up more p q =
    (all_append (NotPast x) xs ys up.0 (all_with Q (NotPast x) (λ y. before x y p.0) ys q), ascend_append P Q before xs ys up.1 more p.1 q)

-- of the declarations of a rule, from a position on
abbrev InRule : (run n position : ℕ) → Spotted → Type 0
InRule run n position z = (q : ℕ) × (z.spot ≡ run ∷ n ∷ q ∷ []) × (position ≤ q)

abbrev InKept : ℕ → Spotted → Type 0
InKept k z = (xs : List ℕ) × (z.spot ≡ suc (k + k) ∷ xs)

-- behind so many kept items, and from an item on
abbrev From : (k n : ℕ) → List ℕ → Type 0
From k n [] = ⊥
From k n (x ∷ []) = k + k < x
From k n (x ∷ y ∷ ys) = (k + k < x) ⊎ ((x ≡ k + k) × (n ≤ y))

abbrev IsFrom : (k n : ℕ) → Spotted → Type 0
IsFrom k n z = From k n z.spot

module _ (l : Layer) where
  decl_in : (run n position : ℕ) (d : DeclItem) (ws : List (SelItem × Bool)) → AllByRecursion (λ (z : Spotted). z.spot ≡ run ∷ n ∷ position ∷ []) (map (decl_spot l run n position d) ws)
  decl_in run n position d [] = tt
  decl_in run n position d (w ∷ ws) = (refl, decl_in run n position d ws)

  one_past : (run n position : ℕ) (d : DeclItem) (v : SelItem × Bool) (ws : List (SelItem × Bool)) → AllByRecursion (NotPast (decl_spot l run n position d v)) (map (decl_spot l run n position d) ws)
  one_past run n position d v [] = tt
  one_past run n position d v (w ∷ ws) = (inr (refl, record { selector = v.0; other = w.0; decl = d; first = refl; second = refl; text = refl }), one_past run n position d v ws)

  decl_ascends : (run n position : ℕ) (d : DeclItem) (ws : List (SelItem × Bool)) → Ascends (map (decl_spot l run n position d) ws)
  decl_ascends run n position d [] = tt
  decl_ascends run n position d (w ∷ ws) = (one_past run n position d w ws, decl_ascends run n position d ws)

  decls_in : (run n position : ℕ) (ss : List SelItem) (decls : List DeclItem) → AllByRecursion (InRule run n position) (decl_spots l run n position ss decls)
  decls_in run n position ss [] = tt
  decls_in run n position ss (d ∷ decls) =
      all_append (InRule run n position) (map (decl_spot l run n position d) (with_repeats [] ss)) (decl_spots l run n (suc position) ss decls)
      (all_with (λ (z : Spotted). z.spot ≡ run ∷ n ∷ position ∷ []) (InRule run n position) (λ z e. (position, e, omega arith)) (map (decl_spot l run n position d) (with_repeats [] ss)) (decl_in run n position d (with_repeats [] ss)))
      (all_with (InRule run n (suc position)) (InRule run n position) (λ z h. (h.0, h.1, let g = h.2 in omega (arith, g))) (decl_spots l run n (suc position) ss decls) (decls_in run n (suc position) ss decls))

  less_decl : (run n position : ℕ) (z y : Spotted) → z.spot ≡ run ∷ n ∷ position ∷ [] → InRule run n (suc position) y → NotPast z y
  less_decl run n position z y e h =
      inl (subst (λ (s : List ℕ). Less s y.spot) (sym e) (subst (λ (s : List ℕ). Less (run ∷ n ∷ position ∷ []) s) (sym h.1) (inr (refl, inr (refl, inl (let g = h.2 in omega (arith, g)))))))

  decls_ascend : (run n position : ℕ) (ss : List SelItem) (decls : List DeclItem) → Ascends (decl_spots l run n position ss decls)
  decls_ascend run n position ss [] = tt
  decls_ascend run n position ss (d ∷ decls) =
      ascend_append (λ (z : Spotted). z.spot ≡ run ∷ n ∷ position ∷ []) (InRule run n (suc position)) (less_decl run n position)
      (map (decl_spot l run n position d) (with_repeats [] ss)) (decl_spots l run n (suc position) ss decls)
      (decl_ascends run n position d (with_repeats [] ss)) (decls_ascend run n (suc position) ss decls) (decl_in run n position d (with_repeats [] ss)) (decls_in run n (suc position) ss decls)

  rule_less : (k n q : ℕ) (ys : List ℕ) → From k (n + 1) ys → Less ((k + k) ∷ n ∷ q ∷ []) ys
  rule_less k n q [] h = absurd h
  rule_less k n q (x ∷ []) h = inl h
  rule_less k n q (x ∷ y ∷ ys) (inl h) = inl h
  rule_less k n q (x ∷ y ∷ ys) (inr (e, h)) = inr (sym e, inl (omega (arith, h)))

  rule_past : (k n : ℕ) (z y : Spotted) → InRule (k + k) n 0 z → IsFrom k (n + 1) y → NotPast z y
  rule_past k n z y h g = inl (subst (λ (s : List ℕ). Less s y.spot) (sym h.1) (rule_less k n h.0 y.spot g))

  kept_less : (k n : ℕ) (xs ys : List ℕ) → From (suc k) n ys → Less (suc (k + k) ∷ xs) ys
  kept_less k n xs [] h = absurd h
  kept_less k n xs (x ∷ []) h = inl (omega (arith, h))
  kept_less k n xs (x ∷ y ∷ ys) (inl h) = inl (omega (arith, h))
  kept_less k n xs (x ∷ y ∷ ys) (inr (e, h)) = inl (omega (arith, e))

  kept_past : (k n : ℕ) (z y : Spotted) → InKept k z → IsFrom (suc k) n y → NotPast z y
  kept_past k n z y h g = inl (subst (λ (s : List ℕ). Less s y.spot) (sym h.1) (kept_less k n h.0 y.spot g))

  rule_from : (k n : ℕ) (z : Spotted) → InRule (k + k) n 0 z → IsFrom k n z
  rule_from k n z h = subst (From k n) (sym h.1) (inr (refl, omega arith))

  kept_from : (k n : ℕ) (z : Spotted) → InKept k z → IsFrom k n z
  kept_from k n z h = subst (From k n) (sym h.1) (which h.0)
    where
      which : (xs : List ℕ) → From k n (suc (k + k) ∷ xs)
      which [] = omega arith
      which (x ∷ xs) = inl (omega arith)

  later_item : (k n : ℕ) (ys : List ℕ) → From k (n + 1) ys → From k n ys
  later_item k n [] h = absurd h
  later_item k n (x ∷ []) h = h
  later_item k n (x ∷ y ∷ ys) (inl h) = inl h
  later_item k n (x ∷ y ∷ ys) (inr (e, h)) = inr (e, omega (arith, h))

  later_kept : (k n m : ℕ) (ys : List ℕ) → From (suc k) m ys → From k n ys
  later_kept k n m [] h = absurd h
  later_kept k n m (x ∷ []) h = omega (arith, h)
  later_kept k n m (x ∷ y ∷ ys) (inl h) = inl (omega (arith, h))
  later_kept k n m (x ∷ y ∷ ys) (inr (e, h)) = inl (omega (arith, e))

  kept_in : (k n : ℕ) (item : Item) (b : Option (List Spotted)) → AllByRecursion (InKept k) (kept_spots l k n item b)
  kept_in k n item None = (([], refl), tt)
  kept_in k n item (Some zs) = which zs
    where
      which : (zs : List Spotted) → AllByRecursion (InKept k) (map (below (suc (k + k))) zs)
      which [] = tt
      which (z ∷ zs) = ((z.spot, refl), which zs)

  below_past : (x : ℕ) (z : Spotted) (zs : List Spotted) → AllByRecursion (NotPast z) zs → AllByRecursion (NotPast (below x z)) (map (below x) zs)
  below_past x z [] all = tt
  below_past x z (y ∷ zs) all = (which all.0, below_past x z zs all.1)
    where
      which : NotPast z y → NotPast (below x z) (below x y)
      which (inl h) = inl (inr (refl, h))
      which (inr h) = inr (ap (λ (s : List ℕ). x ∷ s) h.0, h.1)

  below_ascends : (x : ℕ) (zs : List Spotted) → Ascends zs → Ascends (map (below x) zs)
  below_ascends x [] up = tt
  below_ascends x (z ∷ zs) up = (below_past x z zs up.0, below_ascends x zs up.1)

  abbrev pub BlocksAscend : List (Option (List Spotted)) → Type 0
  BlocksAscend bs = AllByRecursion (λ (b : Option (List Spotted)). IfSome b Ascends) bs

  kept_ascends : (k n : ℕ) (item : Item) (bs : List (Option (List Spotted))) → BlocksAscend bs → Ascends (kept_spots l k n item (block_in bs 0))
  kept_ascends k n item [] up = (tt, tt)
  kept_ascends k n item (None ∷ bs) up = (tt, tt)
  kept_ascends k n item (Some zs ∷ bs) up = below_ascends (suc (k + k)) zs up.0

  others_ascend : (bs : List (Option (List Spotted))) → BlocksAscend bs → BlocksAscend (behind_first bs)
  others_ascend [] up = tt
  others_ascend (b ∷ bs) up = up.1

  with_kept : (k n : ℕ) (xs ys : List Spotted) → AllByRecursion (InKept k) xs → AllByRecursion (IsFrom (suc k) (n + 1)) ys → AllByRecursion (IsFrom k n) (xs ++ ys)
  with_kept k n xs ys h g =
      all_append (IsFrom k n) xs ys (all_with (InKept k) (IsFrom k n) (kept_from k n) xs h) (all_with (IsFrom (suc k) (n + 1)) (IsFrom k n) (λ z. later_kept k n (n + 1) z.spot) ys g)

  all_from : (k n : ℕ) (items : List Item) (bs : List (Option (List Spotted))) → AllByRecursion (IsFrom k n) (spots l k n items bs)
  all_from k n [] bs = tt
  all_from k n (Rule r ∷ items) bs =
      all_append (IsFrom k n) (decl_spots l (k + k) n 0 r.selectors r.decls) (spots l k (n + 1) items bs)
      (all_with (InRule (k + k) n 0) (IsFrom k n) (rule_from k n) (decl_spots l (k + k) n 0 r.selectors r.decls) (decls_in (k + k) n 0 r.selectors r.decls))
      (all_with (IsFrom k (n + 1)) (IsFrom k n) (λ z. later_item k n z.spot) (spots l k (n + 1) items bs) (all_from k (n + 1) items bs))
  all_from k n (KeptRule q ∷ items) bs =
      with_kept k n (kept_spots l k n (KeptRule q) (block_in bs 0)) (spots l (suc k) (n + 1) items (behind_first bs)) (kept_in k n (KeptRule q) (block_in bs 0)) (all_from (suc k) (n + 1) items (behind_first bs))
  all_from k n (KeptBlock p ∷ items) bs =
      with_kept k n (kept_spots l k n (KeptBlock p) (block_in bs 0)) (spots l (suc k) (n + 1) items (behind_first bs)) (kept_in k n (KeptBlock p) (block_in bs 0)) (all_from (suc k) (n + 1) items (behind_first bs))

  pub all_ascend : (k n : ℕ) (items : List Item) (bs : List (Option (List Spotted))) → BlocksAscend bs → Ascends (spots l k n items bs)
  all_ascend k n [] bs up = tt
  all_ascend k n (Rule r ∷ items) bs up =
      ascend_append (InRule (k + k) n 0) (IsFrom k (n + 1)) (rule_past k n) (decl_spots l (k + k) n 0 r.selectors r.decls) (spots l k (n + 1) items bs)
      (decls_ascend (k + k) n 0 r.selectors r.decls) (all_ascend k (n + 1) items bs up) (decls_in (k + k) n 0 r.selectors r.decls) (all_from k (n + 1) items bs)
  all_ascend k n (KeptRule q ∷ items) bs up =
      ascend_append (InKept k) (IsFrom (suc k) (n + 1)) (kept_past k (n + 1)) (kept_spots l k n (KeptRule q) (block_in bs 0)) (spots l (suc k) (n + 1) items (behind_first bs))
      (kept_ascends k n (KeptRule q) bs up) (all_ascend (suc k) (n + 1) items (behind_first bs) (others_ascend bs up)) (kept_in k n (KeptRule q) (block_in bs 0)) (all_from (suc k) (n + 1) items (behind_first bs))
  all_ascend k n (KeptBlock p ∷ items) bs up =
      ascend_append (InKept k) (IsFrom (suc k) (n + 1)) (kept_past k (n + 1)) (kept_spots l k n (KeptBlock p) (block_in bs 0)) (spots l (suc k) (n + 1) items (behind_first bs))
      (kept_ascends k n (KeptBlock p) bs up) (all_ascend (suc k) (n + 1) items (behind_first bs) (others_ascend bs up)) (kept_in k n (KeptBlock p) (block_in bs 0)) (all_from (suc k) (n + 1) items (behind_first bs))
