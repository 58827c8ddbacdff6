-- Pairs that stand elsewhere than in one item of a sheet.
use Rattle.std.proofs.Common.{◌≡◌, ◌≢◌, ◌⊎◌, ◌↔◌, ℕ, zero, suc, ◌+◌, Bool, false, List, [], ◌∷◌, ◌++◌, length, take, Some, None, refl, sym, ap, ap₂, ◌∙◌, subst, inl, inr, arith}
use Rattle.std.specs.Prelude.{slice_get}
use Rattle.std.specs.List.{All, AllByRecursion, remove}
use Rattle.std.proofs.lemmas.List.{length-append}
use Rattle.std.proofs.lemmas.List.Elements.{All-head, All-tail}
use Rattle.cascade_laws.proofs.ForCallers.{some-same}
use Rattle.css_model.specs.declared.sheet.Item.{Item}
use Rattle.css_model.specs.declared.sheet.Item.TheVariants.{Rule}
use Rattle.css_model.specs.Cascade.Order.{Pair, HasPair}
use Rattle.css_model.specs.Sheets.RuleParts.{RuleParts}
use Rattle.order_laws.specs.Edits.{Change, Moved, instead, slots_from, edited}
use Rattle.order_laws.specs.Slots.{new_items, IsFair}
use Rattle.order_laws.proofs.ForCallers.{has_append, has_at, has_rule, InRule, instead_here, instead_there, unchanged}
use Rattle.step_laws.specs.StepEdits.{one_change}

abbrev change : ℕ → List Item → Change
change n by = record { at = n; by = by }

-- a pair of a sheet stands in an item or elsewhere
pub here_or_elsewhere : (items : List Item) (n : ℕ) (x : Item) (p : Pair) → slice_get items n ≡ Some x → HasPair items p → HasPair (x ∷ []) p ⊎ HasPair (remove items n) p
here_or_elsewhere [] n x p at h = absurd (let e : None ≡ Some x = at in cc)
here_or_elsewhere (y ∷ items) zero x p at h = which ((has_append (y ∷ []) items p).0 h)
  where
    which : HasPair (y ∷ []) p ⊎ HasPair items p → HasPair (x ∷ []) p ⊎ HasPair items p
    which (inl g) = inl (subst (λ (z : Item). HasPair (z ∷ []) p) (some-same at) g)
    which (inr g) = inr g
here_or_elsewhere (y ∷ items) (suc n) x p at h = which ((has_append (y ∷ []) items p).0 h) (here_or_elsewhere items n x p at)
  where
    which : HasPair (y ∷ []) p ⊎ HasPair items p → (HasPair items p → HasPair (x ∷ []) p ⊎ HasPair (remove items n) p) → HasPair (x ∷ []) p ⊎ HasPair (y ∷ remove items n) p
    which (inl g) rest = inr ((has_append (y ∷ []) (remove items n) p).1 (inl g))
    which (inr g) rest = there (rest g)
      where
        there : HasPair (x ∷ []) p ⊎ HasPair (remove items n) p → HasPair (x ∷ []) p ⊎ HasPair (y ∷ remove items n) p
        there (inl k) = inl k
        there (inr k) = inr ((has_append (y ∷ []) (remove items n) p).1 (inr k))

-- a rule of another number stands elsewhere
pub stands_elsewhere : (items : List Item) (m n : ℕ) (r : RuleParts) (p : Pair) → slice_get items m ≡ Some (Rule r) → InRule r p → m ≢ n → HasPair (remove items n) p
stands_elsewhere [] m n r p at h other = absurd (let e : None ≡ Some (Rule r) = at in cc)
stands_elsewhere (y ∷ items) zero zero r p at h other = absurd (other refl)
stands_elsewhere (y ∷ items) zero (suc n) r p at h other = (has_append (y ∷ []) (remove items n) p).1 (inl (subst (λ (z : Item). HasPair (z ∷ []) p) (sym (some-same at)) ((has_rule r p).1 h)))
stands_elsewhere (y ∷ items) (suc m) zero r p at h other = has_at items m r p at h
stands_elsewhere (y ∷ items) (suc m) (suc n) r p at h other = (has_append (y ∷ []) (remove items n) p).1 (inr (stands_elsewhere items m n r p at h (λ e. other (ap suc e))))

-- ---- Behind an edit of one item

abbrev Replaced : Pair → List Item → List Item → List Item → Type 0
Replaced p by others new = HasPair new p ↔ (HasPair by p ⊎ HasPair others p)

replaced_next : (p : Pair) (by others new : List Item) (y : Item) → Replaced p by others new → Replaced p by (y ∷ others) (y ∷ new)
replaced_next p by others new y ih = (λ h. there ((has_append (y ∷ []) new p).0 h), back)
  where
    there : HasPair (y ∷ []) p ⊎ HasPair new p → HasPair by p ⊎ HasPair (y ∷ others) p
    there (inl g) = inr ((has_append (y ∷ []) others p).1 (inl g))
    there (inr g) = which (ih.0 g)
      where
        which : HasPair by p ⊎ HasPair others p → HasPair by p ⊎ HasPair (y ∷ others) p
        which (inl k) = inl k
        which (inr k) = inr ((has_append (y ∷ []) others p).1 (inr k))

    back : HasPair by p ⊎ HasPair (y ∷ others) p → HasPair (y ∷ new) p
    back (inl g) = (has_append (y ∷ []) new p).1 (inr (ih.1 (inl g)))
    back (inr g) = which ((has_append (y ∷ []) others p).0 g)
      where
        which : HasPair (y ∷ []) p ⊎ HasPair others p → HasPair (y ∷ new) p
        which (inl k) = (has_append (y ∷ []) new p).1 (inl k)
        which (inr k) = (has_append (y ∷ []) new p).1 (inr (ih.1 (inr k)))

replaced_from : (m n : ℕ) (by items : List Item) (x : Item) (p : Pair) → slice_get items n ≡ Some x → Replaced p by (remove items n) (new_items (slots_from m (change (m + n) by ∷ []) items))
replaced_from m n by [] x p at = absurd (let e : None ≡ Some x = at in cc)
replaced_from m zero by (y ∷ items) x p at = subst (λ (xs : List Item). Replaced p by items xs) (sym is) (has_append by items p)
  where
    is : new_items (slots_from m (change (m + 0) by ∷ []) (y ∷ items)) ≡ by ++ items
    is = ap₂ (λ (xs ys : List Item). xs ++ ys) (instead_here (change (m + 0) by) [] m y (omega arith))
        (unchanged (change (m + 0) by ∷ []) (m + 1) items (λ k z later. instead_there (change (m + 0) by) [] k z (λ e. let f : m + 0 ≡ k = e in omega (arith, f, later))))
replaced_from m (suc n) by (y ∷ items) x p at =
    let e : (m + 1) + n ≡ m + suc n = omega arith in
    let rest : Replaced p by (remove items n) (new_items (slots_from (m + 1) (change (m + suc n) by ∷ []) items)) =
    subst (λ (i : ℕ). Replaced p by (remove items n) (new_items (slots_from (m + 1) (change i by ∷ []) items))) e (replaced_from (m + 1) n by items x p at) in
    subst (λ (xs : List Item). Replaced p by (y ∷ remove items n) xs) (sym is) (replaced_next p by (remove items n) (new_items (slots_from (m + 1) (change (m + suc n) by ∷ []) items)) y rest)
  where
    is : new_items (slots_from m (change (m + suc n) by ∷ []) (y ∷ items)) ≡ y ∷ new_items (slots_from (m + 1) (change (m + suc n) by ∷ []) items)
    is = ap (λ (xs : List Item). xs ++ new_items (slots_from (m + 1) (change (m + suc n) by ∷ []) items)) (instead_there (change (m + suc n) by) [] m y (λ e. let f : m + suc n ≡ m = e in omega (arith, f)))

-- what stands behind it stands in what is new, or stood elsewhere
pub replaced : (items : List Item) (n : ℕ) (by : List Item) (m : Moved) (x : Item) (p : Pair) → slice_get items n ≡ Some x → HasPair (edited (one_change n by m) items) p ↔ (HasPair by p ⊎ HasPair (remove items n) p)
replaced items n by m x p at =
    let e : 0 + n ≡ n = omega arith in
    subst (λ (i : ℕ). Replaced p by (remove items n) (new_items (slots_from 0 (change i by ∷ []) items))) e (replaced_from 0 n by items x p at)

-- ---- Behind any fair edit

-- an item that is left
pub left_alone : (changes : List Change) (n : ℕ) (x : Item) → AllByRecursion (λ (c : Change). c.at ≢ n) changes → instead changes n x ≡ x ∷ []
left_alone [] n x apart = refl
left_alone (c ∷ changes) n x apart = instead_there c changes n x apart.0 ∙ left_alone changes n x apart.1

remove_behind : (xs ys : List Item) (i : ℕ) → remove (xs ++ ys) (length xs + i) ≡ xs ++ remove ys i
remove_behind [] ys i = let z : 0 + i ≡ i = omega arith in ap (remove ys) z
remove_behind (x ∷ xs) ys i = let z : length (x ∷ xs) + i ≡ suc (length xs + i) = omega arith in ap (remove (x ∷ xs ++ ys)) z ∙ ap (λ (zs : List Item). x ∷ zs) (remove_behind xs ys i)

module _ (moved : Pair → Bool) (p : Pair) (still : moved p ≡ false) where
  pub stood_there : (changes : List Change) (m : ℕ) (items : List Item) → All (IsFair moved) (slots_from m changes items) → HasPair (new_items (slots_from m changes items)) p → HasPair items p
  stood_there changes m [] fair h = h
  stood_there changes m (x ∷ items) fair h = which ((has_append (instead changes m x) (new_items (slots_from (m + 1) changes items)) p).0 h)
      (stood_there changes (m + 1) items (All-tail (IsFair moved) (record { old = x; new = instead changes m x }) (slots_from (m + 1) changes items) fair))
    where
      here : IsFair moved (record { old = x; new = instead changes m x })
      here = All-head (IsFair moved) (record { old = x; new = instead changes m x }) (slots_from (m + 1) changes items) fair

      which : HasPair (instead changes m x) p ⊎ HasPair (new_items (slots_from (m + 1) changes items)) p → (HasPair (new_items (slots_from (m + 1) changes items)) p → HasPair items p) → HasPair (x ∷ items) p
      which (inl g) rest = (has_append (x ∷ []) items p).1 (inl ((here.pairs p still).1 g))
      which (inr g) rest = (has_append (x ∷ []) items p).1 (inr (rest g))

  pub stood_elsewhere : (changes : List Change) (m n : ℕ) (items : List Item) (x : Item) → All (IsFair moved) (slots_from m changes items) → AllByRecursion (λ (c : Change). c.at ≢ m + n) changes → slice_get items n ≡ Some x →
      HasPair (remove (new_items (slots_from m changes items)) (length (new_items (slots_from m changes (take n items))))) p → HasPair (remove items n) p
  stood_elsewhere changes m n [] x fair left at h = absurd (let e : None ≡ Some x = at in cc)
  stood_elsewhere changes m zero (y ∷ items) x fair left at h =
      stood_there changes (m + 1) items (All-tail (IsFair moved) (record { old = y; new = instead changes m y }) (slots_from (m + 1) changes items) fair)
      (subst (λ (xs : List Item). HasPair (remove (xs ++ new_items (slots_from (m + 1) changes items)) 0) p) (left_alone changes m y (let e : m + 0 ≡ m = omega arith in subst (λ (k : ℕ). AllByRecursion (λ (c : Change). c.at ≢ k) changes) e left)) h)
  stood_elsewhere changes m (suc n) (y ∷ items) x fair left at h = which ((has_append (instead changes m y) (remove rest (length front)) p).0 (subst (λ (xs : List Item). HasPair xs p) is h))
      (stood_elsewhere changes (m + 1) n items x (All-tail (IsFair moved) (record { old = y; new = instead changes m y }) (slots_from (m + 1) changes items) fair) (let e : m + suc n ≡ (m + 1) + n = omega arith in subst (λ (k : ℕ). AllByRecursion (λ (c : Change). c.at ≢ k) changes) e left) at)
    where
      rest : List Item
      rest = new_items (slots_from (m + 1) changes items)

      front : List Item
      front = new_items (slots_from (m + 1) changes (take n items))

      is : remove (instead changes m y ++ new_items (slots_from (m + 1) changes items)) (length (instead changes m y ++ new_items (slots_from (m + 1) changes (take n items)))) ≡ instead changes m y ++ remove (new_items (slots_from (m + 1) changes items)) (length (new_items (slots_from (m + 1) changes (take n items))))
      is = ap (remove (instead changes m y ++ new_items (slots_from (m + 1) changes items))) (length-append (instead changes m y) (new_items (slots_from (m + 1) changes (take n items))))
          ∙ remove_behind (instead changes m y) (new_items (slots_from (m + 1) changes items)) (length (new_items (slots_from (m + 1) changes (take n items))))

      here : IsFair moved (record { old = y; new = instead changes m y })
      here = All-head (IsFair moved) (record { old = y; new = instead changes m y }) (slots_from (m + 1) changes items) fair

      which : HasPair (instead changes m y) p ⊎ HasPair (remove (new_items (slots_from (m + 1) changes items)) (length (new_items (slots_from (m + 1) changes (take n items))))) p →
          (HasPair (remove (new_items (slots_from (m + 1) changes items)) (length (new_items (slots_from (m + 1) changes (take n items))))) p → HasPair (remove items n) p) → HasPair (y ∷ remove items n) p
      which (inl g) ih = (has_append (y ∷ []) (remove items n) p).1 (inl ((here.pairs p still).1 g))
      which (inr g) ih = (has_append (y ∷ []) (remove items n) p).1 (inr (ih g))

  -- and what stood still stands
  pub still_there : (changes : List Change) (m : ℕ) (items : List Item) → All (IsFair moved) (slots_from m changes items) → HasPair items p → HasPair (new_items (slots_from m changes items)) p
  still_there changes m [] fair h = h
  still_there changes m (x ∷ items) fair h = which ((has_append (x ∷ []) items p).0 h) (still_there changes (m + 1) items (All-tail (IsFair moved) (record { old = x; new = instead changes m x }) (slots_from (m + 1) changes items) fair))
    where
      here : IsFair moved (record { old = x; new = instead changes m x })
      here = All-head (IsFair moved) (record { old = x; new = instead changes m x }) (slots_from (m + 1) changes items) fair

      which : HasPair (x ∷ []) p ⊎ HasPair items p → (HasPair items p → HasPair (new_items (slots_from (m + 1) changes items)) p) → HasPair (instead changes m x ++ new_items (slots_from (m + 1) changes items)) p
      which (inl g) rest = (has_append (instead changes m x) (new_items (slots_from (m + 1) changes items)) p).1 (inl ((here.pairs p still).0 g))
      which (inr g) rest = (has_append (instead changes m x) (new_items (slots_from (m + 1) changes items)) p).1 (inr (rest g))

  pub still_elsewhere : (changes : List Change) (m n : ℕ) (items : List Item) (x : Item) → All (IsFair moved) (slots_from m changes items) → AllByRecursion (λ (c : Change). c.at ≢ m + n) changes → slice_get items n ≡ Some x →
      HasPair (remove items n) p → HasPair (remove (new_items (slots_from m changes items)) (length (new_items (slots_from m changes (take n items))))) p
  still_elsewhere changes m n [] x fair left at h = absurd (let e : None ≡ Some x = at in cc)
  still_elsewhere changes m zero (y ∷ items) x fair left at h =
      subst (λ (xs : List Item). HasPair (remove (xs ++ new_items (slots_from (m + 1) changes items)) 0) p) (sym (left_alone changes m y (let e : m + 0 ≡ m = omega arith in subst (λ (k : ℕ). AllByRecursion (λ (c : Change). c.at ≢ k) changes) e left)))
      (still_there changes (m + 1) items (All-tail (IsFair moved) (record { old = y; new = instead changes m y }) (slots_from (m + 1) changes items) fair) h)
  still_elsewhere changes m (suc n) (y ∷ items) x fair left at h = subst (λ (xs : List Item). HasPair xs p) (sym is) ((has_append (instead changes m y) (remove rest (length front)) p).1 (which ((has_append (y ∷ []) (remove items n) p).0 h)
      (still_elsewhere changes (m + 1) n items x (All-tail (IsFair moved) (record { old = y; new = instead changes m y }) (slots_from (m + 1) changes items) fair) (let e : m + suc n ≡ (m + 1) + n = omega arith in subst (λ (k : ℕ). AllByRecursion (λ (c : Change). c.at ≢ k) changes) e left) at)))
    where
      rest : List Item
      rest = new_items (slots_from (m + 1) changes items)

      front : List Item
      front = new_items (slots_from (m + 1) changes (take n items))

      is : remove (instead changes m y ++ new_items (slots_from (m + 1) changes items)) (length (instead changes m y ++ new_items (slots_from (m + 1) changes (take n items)))) ≡ instead changes m y ++ remove (new_items (slots_from (m + 1) changes items)) (length (new_items (slots_from (m + 1) changes (take n items))))
      is = ap (remove (instead changes m y ++ new_items (slots_from (m + 1) changes items))) (length-append (instead changes m y) (new_items (slots_from (m + 1) changes (take n items))))
          ∙ remove_behind (instead changes m y) (new_items (slots_from (m + 1) changes items)) (length (new_items (slots_from (m + 1) changes (take n items))))

      here : IsFair moved (record { old = y; new = instead changes m y })
      here = All-head (IsFair moved) (record { old = y; new = instead changes m y }) (slots_from (m + 1) changes items) fair

      which : HasPair (y ∷ []) p ⊎ HasPair (remove items n) p → (HasPair (remove items n) p → HasPair (remove (new_items (slots_from (m + 1) changes items)) (length (new_items (slots_from (m + 1) changes (take n items))))) p) →
          HasPair (instead changes m y) p ⊎ HasPair (remove (new_items (slots_from (m + 1) changes items)) (length (new_items (slots_from (m + 1) changes (take n items))))) p
      which (inl g) ih = inl ((here.pairs p still).0 g)
      which (inr g) ih = inr (ih g)
