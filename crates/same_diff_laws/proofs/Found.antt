-- What is at a place of a sheet laid flat, and where a pair of a layer is.
use Rattle.std.proofs.Common.{◌≡◌, ◌≢◌, ◌⊎◌, inl, inr, ℕ, zero, suc, ◌+◌, ◌≤◌, Bool, true, false, List, [], ◌∷◌, ◌++◌, map, Option, Some, None, refl, sym, ap, ◌∙◌, subst, arith}
use Rattle.std.specs.Prelude.{◌||◌, slice_get}
use Rattle.std.specs.List.{Contains}
use Rattle.std.proofs.lemmas.Bool.{false≢true, true≢false, false_from_ne_true}
use Rattle.std.proofs.lemmas.List.Elements.{Contains-append_left, Contains-append_right}
use Rattle.cascade_laws.proofs.ForCallers.{some-same}
use Rattle.css_model.specs.declared.sheet.DeclItem.{DeclItem}
use Rattle.css_model.specs.declared.sheet.Item.{Item}
use Rattle.css_model.specs.declared.sheet.Item.TheVariants.{Rule, KeptRule, KeptBlock}
use Rattle.css_model.specs.declared.sheet.SelItem.{SelItem}
use Rattle.css_model.specs.Documents.SelectorParts.{SelectorParts}
use Rattle.css_model.specs.Sheets.KeptItems.{kept_before, kept_items}
use Rattle.css_model.specs.Sheets.RuleParts.{RuleParts}
use Rattle.list_facts.proofs.Members.{Contains-here, Contains-there, Contains-nil, Contains-cons_cases}
use Rattle.order_laws.proofs.ForCallers.{has_selector_is, map_from, map_has, same_selector_or_not, sels}
use Rattle.order_laws.specs.Members.{has_selector}
use Rattle.sheet_members.specs.Layers.{Layer}
use Rattle.sheet_members.specs.Occurrences.{kept_of, with_repeats}
use Rattle.same_diff_laws.proofs.Spots.{Spotted, behind_first, below, block_in, decl_spot, decl_spots, kept_spots, spots}

pub append_cases : {X : Type 0} (xs ys : List X) (x : X) → Contains (xs ++ ys) x → Contains xs x ⊎ Contains ys x
append_cases [] ys x h = inr h
append_cases (y ∷ xs) ys x h = which (Contains-cons_cases y (xs ++ ys) x h) (λ g. append_cases xs ys x g)
  where
    which : (y ≡ x) ⊎ Contains (xs ++ ys) x → (Contains (xs ++ ys) x → Contains xs x ⊎ Contains ys x) → Contains (y ∷ xs) x ⊎ Contains ys x
    which (inl e) rest = inl (subst (λ z. Contains (y ∷ xs) z) e (Contains-here y xs))
    which (inr g) rest = sided (rest g)
      where
        sided : Contains xs x ⊎ Contains ys x → Contains (y ∷ xs) x ⊎ Contains ys x
        sided (inl k) = inl (Contains-there y xs x k)
        sided (inr k) = inr k

-- ---- What is at a place

-- a pair of a rule
pub record IsRuleSpot (l : Layer) (k n : ℕ) (items : List Item) (z : Spotted) : Type 0 where
  pub index : ℕ
  pub position : ℕ
  pub rule : RuleParts
  pub decl : DeclItem
  pub marked : SelItem × Bool
  pub rule_at : slice_get items index ≡ Some (Rule rule)
  pub decl_at : slice_get rule.decls position ≡ Some decl
  pub among : Contains (with_repeats [] rule.selectors) marked
  pub run : ℕ
  pub number : ℕ
  pub run_is : run ≡ (k + kept_before index items) + (k + kept_before index items)
  pub number_is : number ≡ n + index
  pub is : z ≡ decl_spot l run number position decl marked

-- a kept item that is not opened, by its place among the kept items
pub record IsKeptSpot (l : Layer) (k : ℕ) (items : List Item) (bs : List (Option (List Spotted))) (z : Spotted) : Type 0 where
  pub index : ℕ
  pub item : Item
  pub at : slice_get (kept_items items) index ≡ Some item
  pub none : block_in bs index ≡ None
  pub number : ℕ
  pub run : ℕ
  pub run_is : run ≡ k + index
  pub is : z ≡ record { spot = suc (run + run) ∷ []; occurrence = kept_of l number item }

-- what is in the body of an opened block
pub record IsInnerSpot (k : ℕ) (items : List Item) (bs : List (Option (List Spotted))) (z : Spotted) : Type 0 where
  pub index : ℕ
  pub item : Item
  pub at : slice_get (kept_items items) index ≡ Some item
  pub inside : List Spotted
  pub block : block_in bs index ≡ Some inside
  pub inner : Spotted
  pub among : Contains inside inner
  pub run : ℕ
  pub run_is : run ≡ k + index
  pub is : z ≡ below (suc (run + run)) inner

abbrev pub IsSpot : (l : Layer) (k n : ℕ) (items : List Item) (bs : List (Option (List Spotted))) → Spotted → Type 0
IsSpot l k n items bs z = IsRuleSpot l k n items z ⊎ (IsKeptSpot l k items bs z ⊎ IsInnerSpot k items bs z)

block_behind : (bs : List (Option (List Spotted))) (j : ℕ) → block_in bs (suc j) ≡ block_in (behind_first bs) j
block_behind [] j = refl
block_behind (b ∷ bs) j = refl

module _ (l : Layer) where
  record IsDeclSpot (run n position : ℕ) (ss : List SelItem) (decls : List DeclItem) (z : Spotted) : Type 0 where
    index : ℕ
    decl : DeclItem
    marked : SelItem × Bool
    at : slice_get decls index ≡ Some decl
    among : Contains (with_repeats [] ss) marked
    place : ℕ
    place_is : place ≡ position + index
    is : z ≡ decl_spot l run n place decl marked

  decl_found : (run n position : ℕ) (ss : List SelItem) (decls : List DeclItem) (z : Spotted) → Contains (decl_spots l run n position ss decls) z → IsDeclSpot run n position ss decls z
  decl_found run n position ss [] z h = absurd (Contains-nil z h)
  decl_found run n position ss (d ∷ decls) z h =
      which (append_cases (map (decl_spot l run n position d) (with_repeats [] ss)) (decl_spots l run n (suc position) ss decls) z h) (λ g. decl_found run n (suc position) ss decls z g)
    where
      which : Contains (map (decl_spot l run n position d) (with_repeats [] ss)) z ⊎ Contains (decl_spots l run n (suc position) ss decls) z →
          (Contains (decl_spots l run n (suc position) ss decls) z → IsDeclSpot run n (suc position) ss decls z) → IsDeclSpot run n position ss (d ∷ decls) z
      which (inl g) rest =
          let w = map_from (decl_spot l run n position d) (with_repeats [] ss) z g in
          record { index = 0; decl = d; marked = w.0; at = refl; among = w.1; place = position; place_is = omega arith; is = sym w.2 }
      which (inr g) rest =
          let r : IsDeclSpot run n (suc position) ss decls z = rest g in
          record { index = suc r.index; decl = r.decl; marked = r.marked; at = r.at; among = r.among; place = r.place; place_is = (let e = r.place_is in omega (arith, e)); is = r.is }

  -- behind a rule
  past_rule : (k n : ℕ) (r : RuleParts) (items : List Item) (bs : List (Option (List Spotted))) (z : Spotted) → IsSpot l k (n + 1) items bs z → IsSpot l k n (Rule r ∷ items) bs z
  past_rule k n r items bs z (inl s) = inl (record {
    index = suc s.index;
    position = s.position;
    rule = s.rule;
    decl = s.decl;
    marked = s.marked;
    rule_at = s.rule_at;
    decl_at = s.decl_at;
    among = s.among;
    run = s.run;
    number = s.number;
    run_is = s.run_is;
    number_is = (let e = s.number_is in omega (arith, e));
    is = s.is;
  })
  past_rule k n r items bs z (inr (inl s)) = inr (inl (record { index = s.index; item = s.item; at = s.at; none = s.none; number = s.number; run = s.run; run_is = s.run_is; is = s.is }))
  past_rule k n r items bs z (inr (inr s)) =
      inr (inr (record { index = s.index; item = s.item; at = s.at; inside = s.inside; block = s.block; inner = s.inner; among = s.among; run = s.run; run_is = s.run_is; is = s.is }))

  -- a kept item before others
  module _ (k n : ℕ) (x : Item) (items : List Item) (bs : List (Option (List Spotted))) (one : (i : ℕ) → kept_before (suc i) (x ∷ items) ≡ suc (kept_before i items)) (listed : kept_items (x ∷ items) ≡ x ∷ kept_items items) where
    past_kept : (z : Spotted) → IsSpot l (suc k) (n + 1) items (behind_first bs) z → IsSpot l k n (x ∷ items) bs z
    past_kept z (inl s) = inl (record {
      index = suc s.index;
      position = s.position;
      rule = s.rule;
      decl = s.decl;
      marked = s.marked;
      rule_at = s.rule_at;
      decl_at = s.decl_at;
      among = s.among;
      run = s.run;
      number = s.number;
      run_is = (let e = s.run_is in let o = one s.index in omega (arith, e, o));
      number_is = (let e = s.number_is in omega (arith, e));
      is = s.is;
    })
    past_kept z (inr (inl s)) = inr (inl (record {
      index = suc s.index;
      item = s.item;
      at = subst (λ (xs : List Item). slice_get xs (suc s.index) ≡ Some s.item) (sym listed) s.at;
      none = block_behind bs s.index ∙ s.none;
      number = s.number;
      run = s.run;
      run_is = (let e = s.run_is in omega (arith, e));
      is = s.is;
    }))
    past_kept z (inr (inr s)) = inr (inr (record {
      index = suc s.index;
      item = s.item;
      at = subst (λ (xs : List Item). slice_get xs (suc s.index) ≡ Some s.item) (sym listed) s.at;
      inside = s.inside;
      block = block_behind bs s.index ∙ s.block;
      inner = s.inner;
      among = s.among;
      run = s.run;
      run_is = (let e = s.run_is in omega (arith, e));
      is = s.is;
    }))

    first_at : slice_get (kept_items (x ∷ items)) 0 ≡ Some x
    first_at = subst (λ (xs : List Item). slice_get xs 0 ≡ Some x) (sym listed) refl

    kept_here : (b : Option (List Spotted)) → block_in bs 0 ≡ b → (z : Spotted) → Contains (kept_spots l k n x b) z → IsSpot l k n (x ∷ items) bs z
    kept_here None e z h = which (Contains-cons_cases (record { spot = suc (k + k) ∷ []; occurrence = kept_of l n x }) [] z h)
      where
        which : (record { spot = suc (k + k) ∷ []; occurrence = kept_of l n x } ≡ z) ⊎ Contains [] z → IsSpot l k n (x ∷ items) bs z
        which (inl is) = inr (inl (record { index = 0; item = x; at = first_at; none = e; number = n; run = k; run_is = omega arith; is = sym is }))
        which (inr none) = absurd (Contains-nil z none)
    kept_here (Some zs) e z h =
        let w = map_from (below (suc (k + k))) zs z h in
        inr (inr (record { index = 0; item = x; at = first_at; inside = zs; block = e; inner = w.0; among = w.1; run = k; run_is = omega arith; is = sym w.2 }))

    kept_found : (z : Spotted) → Contains (kept_spots l k n x (block_in bs 0) ++ spots l (suc k) (n + 1) items (behind_first bs)) z →
        (Contains (spots l (suc k) (n + 1) items (behind_first bs)) z → IsSpot l (suc k) (n + 1) items (behind_first bs) z) → IsSpot l k n (x ∷ items) bs z
    kept_found z h rest = which (append_cases (kept_spots l k n x (block_in bs 0)) (spots l (suc k) (n + 1) items (behind_first bs)) z h)
      where
        which : Contains (kept_spots l k n x (block_in bs 0)) z ⊎ Contains (spots l (suc k) (n + 1) items (behind_first bs)) z → IsSpot l k n (x ∷ items) bs z
        which (inl g) = kept_here (block_in bs 0) refl z g
        which (inr g) = past_kept z (rest g)

  pub found : (k n : ℕ) (items : List Item) (bs : List (Option (List Spotted))) (z : Spotted) → Contains (spots l k n items bs) z → IsSpot l k n items bs z
  found k n [] bs z h = absurd (Contains-nil z h)
  found k n (Rule r ∷ items) bs z h = which (append_cases (decl_spots l (k + k) n 0 r.selectors r.decls) (spots l k (n + 1) items bs) z h) (λ g. found k (n + 1) items bs z g)
    where
      which : Contains (decl_spots l (k + k) n 0 r.selectors r.decls) z ⊎ Contains (spots l k (n + 1) items bs) z → (Contains (spots l k (n + 1) items bs) z → IsSpot l k (n + 1) items bs z) → IsSpot l k n (Rule r ∷ items) bs z
      which (inl g) rest =
          let s : IsDeclSpot (k + k) n 0 r.selectors r.decls z = decl_found (k + k) n 0 r.selectors r.decls z g in
          inl (record {
            index = 0;
            position = s.index;
            rule = r;
            decl = s.decl;
            marked = s.marked;
            rule_at = refl;
            decl_at = s.at;
            among = s.among;
            run = k + k;
            number = n;
            run_is = omega arith;
            number_is = omega arith;
            is = s.is ∙ ap (λ (p : ℕ). decl_spot l (k + k) n p s.decl s.marked) (let e = s.place_is in let f : s.place ≡ s.index = omega (arith, e) in f);
          })
      which (inr g) rest = past_rule k n r items bs z (rest g)
  found k n (KeptRule q ∷ items) bs z h = kept_found k n (KeptRule q) items bs (λ i. refl) refl z h (λ g. found (suc k) (n + 1) items (behind_first bs) z g)
  found k n (KeptBlock p ∷ items) bs z h = kept_found k n (KeptBlock p) items bs (λ i. refl) refl z h (λ g. found (suc k) (n + 1) items (behind_first bs) z g)

  -- ---- Where a pair of a rule is

  decl_has : (run n position : ℕ) (ss : List SelItem) (decls : List DeclItem) (j place : ℕ) (d : DeclItem) (w : SelItem × Bool) → slice_get decls j ≡ Some d → Contains (with_repeats [] ss) w →
      place ≡ position + j → Contains (decl_spots l run n position ss decls) (decl_spot l run n place d w)
  decl_has run n position ss [] j place d w at among is = absurd (let e : None ≡ Some d = at in cc)
  decl_has run n position ss (d' ∷ decls) zero place d w at among is =
      Contains-append_left (map (decl_spot l run n position d') (with_repeats [] ss)) (decl_spots l run n (suc position) ss decls) (decl_spot l run n place d w)
      (subst (λ (p : ℕ). Contains (map (decl_spot l run n position d') (with_repeats [] ss)) (decl_spot l run n p d w)) (let e : position ≡ place = omega (arith, is) in e)
      (subst (λ (f : DeclItem). Contains (map (decl_spot l run n position d') (with_repeats [] ss)) (decl_spot l run n position f w)) (some-same at) (map_has (decl_spot l run n position d') (with_repeats [] ss) w among)))
  decl_has run n position ss (d' ∷ decls) (suc j) place d w at among is =
      Contains-append_right (map (decl_spot l run n position d') (with_repeats [] ss)) (decl_spots l run n (suc position) ss decls) (decl_spot l run n place d w)
      (decl_has run n (suc position) ss decls j place d w at among (omega (arith, is)))

  -- of the item of a number
  pub record HasRuleSpot (k n : ℕ) (items : List Item) (bs : List (Option (List Spotted))) (i position : ℕ) (d : DeclItem) (w : SelItem × Bool) : Type 0 where
    pub run : ℕ
    pub number : ℕ
    pub run_is : run ≡ (k + kept_before i items) + (k + kept_before i items)
    pub number_is : number ≡ n + i
    pub there : Contains (spots l k n items bs) (decl_spot l run number position d w)

  kept_later : (k n : ℕ) (x : Item) (items : List Item) (bs : List (Option (List Spotted))) → (i position : ℕ) (d : DeclItem) (w : SelItem × Bool) → kept_before (suc i) (x ∷ items) ≡ suc (kept_before i items) →
      spots l k n (x ∷ items) bs ≡ kept_spots l k n x (block_in bs 0) ++ spots l (suc k) (n + 1) items (behind_first bs) → HasRuleSpot (suc k) (n + 1) items (behind_first bs) i position d w → HasRuleSpot k n (x ∷ items) bs (suc i) position d w
  kept_later k n x items bs i position d w one parts h = record {
    run = h.run;
    number = h.number;
    run_is = (let e = h.run_is in omega (arith, e, one));
    number_is = (let e = h.number_is in omega (arith, e));
    there = subst (λ (zs : List Spotted). Contains zs (decl_spot l h.run h.number position d w)) (sym parts)
        (Contains-append_right (kept_spots l k n x (block_in bs 0)) (spots l (suc k) (n + 1) items (behind_first bs)) (decl_spot l h.run h.number position d w) h.there);
  }

  pub rule_has : (k n : ℕ) (items : List Item) (bs : List (Option (List Spotted))) (i position : ℕ) (r : RuleParts) (d : DeclItem) (w : SelItem × Bool) → slice_get items i ≡ Some (Rule r) →
      slice_get r.decls position ≡ Some d → Contains (with_repeats [] r.selectors) w → HasRuleSpot k n items bs i position d w
  rule_has k n [] bs i position r d w at decl_at among = absurd (let e : None ≡ Some (Rule r) = at in cc)
  rule_has k n (Rule q ∷ items) bs zero position r d w at decl_at among =
      let same : q ≡ r = (let e : Rule q ≡ Rule r = some-same at in cc) in
      record {
        run = k + k;
        number = n;
        run_is = omega arith;
        number_is = omega arith;
        there = Contains-append_left (decl_spots l (k + k) n 0 q.selectors q.decls) (spots l k (n + 1) items bs) (decl_spot l (k + k) n position d w)
            (subst (λ (t : RuleParts). Contains (decl_spots l (k + k) n 0 t.selectors t.decls) (decl_spot l (k + k) n position d w)) (sym same)
            (decl_has (k + k) n 0 r.selectors r.decls position position d w decl_at among (omega arith)));
      }
  rule_has k n (KeptRule q ∷ items) bs zero position r d w at decl_at among = absurd (let e : KeptRule q ≡ Rule r = some-same at in cc)
  rule_has k n (KeptBlock q ∷ items) bs zero position r d w at decl_at among = absurd (let e : KeptBlock q ≡ Rule r = some-same at in cc)
  rule_has k n (Rule q ∷ items) bs (suc i) position r d w at decl_at among =
      let h : HasRuleSpot k (n + 1) items bs i position d w = rule_has k (n + 1) items bs i position r d w at decl_at among in
      record {
        run = h.run;
        number = h.number;
        run_is = h.run_is;
        number_is = (let e = h.number_is in omega (arith, e));
        there = Contains-append_right (decl_spots l (k + k) n 0 q.selectors q.decls) (spots l k (n + 1) items bs) (decl_spot l h.run h.number position d w) h.there;
      }
  rule_has k n (KeptRule q ∷ items) bs (suc i) position r d w at decl_at among =
      kept_later k n (KeptRule q) items bs i position d w refl refl (rule_has (suc k) (n + 1) items (behind_first bs) i position r d w at decl_at among)
  rule_has k n (KeptBlock q ∷ items) bs (suc i) position r d w at decl_at among =
      kept_later k n (KeptBlock q) items bs i position d w refl refl (rule_has (suc k) (n + 1) items (behind_first bs) i position r d w at decl_at among)

  -- ---- Where what is in a body is

  pub record HasInner (k n : ℕ) (items : List Item) (bs : List (Option (List Spotted))) (j : ℕ) (inner : Spotted) : Type 0 where
    pub run : ℕ
    pub run_is : run ≡ k + j
    pub there : Contains (spots l k n items bs) (below (suc (run + run)) inner)

  inner_first : (k n : ℕ) (x : Item) (bs : List (Option (List Spotted))) (rest zs : List Spotted) (inner : Spotted) → block_in bs 0 ≡ Some zs → Contains zs inner →
      Contains (kept_spots l k n x (block_in bs 0) ++ rest) (below (suc (k + k)) inner)
  inner_first k n x bs rest zs inner block among =
      Contains-append_left (kept_spots l k n x (block_in bs 0)) rest (below (suc (k + k)) inner)
      (subst (λ (b : Option (List Spotted)). Contains (kept_spots l k n x b) (below (suc (k + k)) inner)) (sym block) (map_has (below (suc (k + k))) zs inner among))

  pub inner_has : (k n : ℕ) (items : List Item) (bs : List (Option (List Spotted))) (j : ℕ) (x : Item) (zs : List Spotted) (inner : Spotted) → slice_get (kept_items items) j ≡ Some x → block_in bs j ≡ Some zs →
      Contains zs inner → HasInner k n items bs j inner
  inner_has k n [] bs j x zs inner at block among = absurd (let e : None ≡ Some x = at in cc)
  inner_has k n (Rule r ∷ items) bs j x zs inner at block among =
      let h : HasInner k (n + 1) items bs j inner = inner_has k (n + 1) items bs j x zs inner at block among in
      record { run = h.run; run_is = h.run_is; there = Contains-append_right (decl_spots l (k + k) n 0 r.selectors r.decls) (spots l k (n + 1) items bs) (below (suc (h.run + h.run)) inner) h.there }
  inner_has k n (KeptRule q ∷ items) bs zero x zs inner at block among =
      record { run = k; run_is = omega arith; there = inner_first k n (KeptRule q) bs (spots l (suc k) (n + 1) items (behind_first bs)) zs inner block among }
  inner_has k n (KeptBlock p ∷ items) bs zero x zs inner at block among =
      record { run = k; run_is = omega arith; there = inner_first k n (KeptBlock p) bs (spots l (suc k) (n + 1) items (behind_first bs)) zs inner block among }
  inner_has k n (KeptRule q ∷ items) bs (suc j) x zs inner at block among =
      let h : HasInner (suc k) (n + 1) items (behind_first bs) j inner = inner_has (suc k) (n + 1) items (behind_first bs) j x zs inner at (sym (block_behind bs j) ∙ block) among in
      record {
        run = h.run;
        run_is = (let e = h.run_is in omega (arith, e));
        there = Contains-append_right (kept_spots l k n (KeptRule q) (block_in bs 0)) (spots l (suc k) (n + 1) items (behind_first bs)) (below (suc (h.run + h.run)) inner) h.there;
      }
  inner_has k n (KeptBlock p ∷ items) bs (suc j) x zs inner at block among =
      let h : HasInner (suc k) (n + 1) items (behind_first bs) j inner = inner_has (suc k) (n + 1) items (behind_first bs) j x zs inner at (sym (block_behind bs j) ∙ block) among in
      record {
        run = h.run;
        run_is = (let e = h.run_is in omega (arith, e));
        there = Contains-append_right (kept_spots l k n (KeptBlock p) (block_in bs 0)) (spots l (suc k) (n + 1) items (behind_first bs)) (below (suc (h.run + h.run)) inner) h.there;
      }

-- ---- Selectors that do not come before

pub marked_in : (before ss : List SelItem) (w : SelItem × Bool) → Contains (with_repeats before ss) w → Contains (sels ss) w.0.selector
marked_in before [] w h = absurd (Contains-nil w h)
marked_in before (s ∷ ss) w h = which (Contains-cons_cases (s, has_selector before s.selector) (with_repeats (before ++ s ∷ []) ss) w h) (λ g. marked_in (before ++ s ∷ []) ss w g)
  where
    which : ((s, has_selector before s.selector) ≡ w) ⊎ Contains (with_repeats (before ++ s ∷ []) ss) w → (Contains (with_repeats (before ++ s ∷ []) ss) w → Contains (sels ss) w.0.selector) → Contains (sels (s ∷ ss)) w.0.selector
    which (inl e) rest = subst (λ (v : SelItem × Bool). Contains (sels (s ∷ ss)) v.0.selector) e (Contains-here s.selector (sels ss))
    which (inr g) rest = Contains-there s.selector (sels ss) w.0.selector (rest g)

not_later : (before : List SelItem) (s : SelItem) (x : SelectorParts) → has_selector before x ≡ false → (s.selector ≢ x) → has_selector (before ++ s ∷ []) x ≡ false
not_later before s x none differ =
    false_from_ne_true (has_selector (before ++ s ∷ []) x) (λ has. which (append_sels before ((has_selector_is (before ++ s ∷ []) x).0 has)))
  where
    append_sels : (ts : List SelItem) → Contains (sels (ts ++ s ∷ [])) x → Contains (sels ts) x ⊎ (s.selector ≡ x)
    append_sels [] h = sided (Contains-cons_cases s.selector [] x h)
      where
        sided : (s.selector ≡ x) ⊎ Contains [] x → Contains [] x ⊎ (s.selector ≡ x)
        sided (inl e) = inr e
        sided (inr g) = inl g
    append_sels (t ∷ ts) h = sided (Contains-cons_cases t.selector (sels (ts ++ s ∷ [])) x h) (λ g. append_sels ts g)
      where
        sided : (t.selector ≡ x) ⊎ Contains (sels (ts ++ s ∷ [])) x → (Contains (sels (ts ++ s ∷ [])) x → Contains (sels ts) x ⊎ (s.selector ≡ x)) → Contains (sels (t ∷ ts)) x ⊎ (s.selector ≡ x)
        sided (inl e) rest = inl (subst (λ (y : SelectorParts). Contains (sels (t ∷ ts)) y) e (Contains-here t.selector (sels ts)))
        sided (inr g) rest = behind (rest g)
          where
            behind : Contains (sels ts) x ⊎ (s.selector ≡ x) → Contains (sels (t ∷ ts)) x ⊎ (s.selector ≡ x)
            behind (inl k) = inl (Contains-there t.selector (sels ts) x k)
            behind (inr e) = inr e

    which : Contains (sels before) x ⊎ (s.selector ≡ x) → ⊥
    which (inl h) = true≢false (sym ((has_selector_is before x).1 h) ∙ none)
    which (inr e) = differ e

-- the first one of a rule with a selector
pub record IsFirst (before ss : List SelItem) (x : SelectorParts) : Type 0 where
  pub marked : SelItem × Bool
  pub among : Contains (with_repeats before ss) marked
  pub selector : marked.0.selector ≡ x
  pub first : marked.1 ≡ false

pub first_in : (before ss : List SelItem) (x : SelectorParts) → has_selector before x ≡ false → Contains (sels ss) x → IsFirst before ss x
first_in before [] x none h = absurd (Contains-nil x h)
first_in before (s ∷ ss) x none h = which (same_selector_or_not s.selector x) (Contains-cons_cases s.selector (sels ss) x h) (λ k g. first_in (before ++ s ∷ []) ss x k g)
  where
    which : (s.selector ≡ x) ⊎ (s.selector ≢ x) → (s.selector ≡ x) ⊎ Contains (sels ss) x → (has_selector (before ++ s ∷ []) x ≡ false → Contains (sels ss) x → IsFirst (before ++ s ∷ []) ss x) → IsFirst before (s ∷ ss) x
    which (inl e) side rest = record {
      marked = (s, has_selector before s.selector);
      among = Contains-here (s, has_selector before s.selector) (with_repeats (before ++ s ∷ []) ss);
      selector = e;
      first = ap (has_selector before) e ∙ none;
    }
    which (inr differ) (inl e) rest = absurd (differ e)
    which (inr differ) (inr g) rest =
        let r : IsFirst (before ++ s ∷ []) ss x = rest (not_later before s x none differ) g in
        record { marked = r.marked; among = Contains-there (s, has_selector before s.selector) (with_repeats (before ++ s ∷ []) ss) r.marked r.among; selector = r.selector; first = r.first }
