-- A step and a join beside it, each of which may be taken behind the other.
use Rattle.std.proofs.Common.{◌≡◌, ◌≢◌, ◌⊎◌, ℕ, ◌<◌, ◌≤◌, Bool, true, false, List, [], ◌∷◌, length, Some, refl, sym, ◌∙◌, subst, inl, inr, arith}
use Rattle.std.specs.Prelude.{slice_get}
use Rattle.std.specs.List.{AllByRecursion}
use Rattle.std.proofs.lemmas.Option.{slice_get_within}
use Rattle.css_model.specs.declared.sheet.Item.{Item}
use Rattle.css_model.specs.declared.sheet.Item.TheVariants.{Rule}
use Rattle.css_model.specs.Cascade.Order.{Pair, HasPair, IsLast, IsBeforeKept}
use Rattle.css_model.specs.Cascade.Winner.{Place}
use Rattle.css_model.specs.Sheets.KeptItems.{kept_before}
use Rattle.css_model.specs.Sheets.Limits.{max_items}
use Rattle.order_laws.specs.Edits.{is_moved, Change, Edit, edited, StandsIn, IsRearrangement}
use Rattle.order_laws.specs.Reversing.{UnmovedKeepTheirOrder}
use Rattle.order_laws.proofs.ForCallers.{last_of}
use Rattle.step_laws.specs.declared.step.Step.{Step}
use Rattle.step_laws.specs.declared.step.Step.TheVariants.{CutDecl, CutSel, JoinSelUp, JoinSelDown, JoinDeclUp, JoinDeclDown, Share}
use Rattle.step_laws.specs.Left.{StepsRearrange}
use Rattle.step_laws.specs.StepEdits.{CutsRearrange, cut_decl, cut_selector, join_selectors_up, join_selectors_down, join_decls_up, join_decls_down, share}
use Rattle.step_laws.specs.Steps.{IsStep, first_item, last_item}
use Rattle.plan_laws.specs.Barrier.Renumbering.{Leaves, new_number, renumbered, renumbered_edit, AreOfOthers, IsOfOthers, IsOfTwo, AreSideBySide}
use Rattle.plan_laws.proofs.Barrier.Behind.{joins_stay}
use Rattle.plan_laws.proofs.Barrier.Renumbers.{edits_commute, items_stay}

-- ---- A rearrangement keeps the pairs

unmoved_on : UnmovedKeepTheirOrder → (items : List Item) (e : Edit) → IsRearrangement items e → (p : Pair) → is_moved e.moved p ≡ false → HasPair items p → HasPair (edited e items) p
unmoved_on law items e is p still has =
    let w : (x : Place) × IsLast items p x = last_of items p has in
    let b : IsBeforeKept items p (kept_before w.0.item items) = record { place = w.0; stands = w.1; before = omega arith } in
    let c : IsBeforeKept (edited e items) p (kept_before w.0.item items) = ((law items e is).1 p (kept_before w.0.item items) still).0 b in
    (c.place, c.stands.stands)

unmoved_back : UnmovedKeepTheirOrder → (items : List Item) (e : Edit) → IsRearrangement items e → (p : Pair) → is_moved e.moved p ≡ false → HasPair (edited e items) p → HasPair items p
unmoved_back law items e is p still has =
    let w : (x : Place) × IsLast (edited e items) p x = last_of (edited e items) p has in
    let b : IsBeforeKept (edited e items) p (kept_before w.0.item (edited e items)) = record { place = w.0; stands = w.1; before = omega arith } in
    let c : IsBeforeKept items p (kept_before w.0.item (edited e items)) = ((law items e is).1 p (kept_before w.0.item (edited e items)) still).1 b in
    (c.place, c.stands.stands)

pairs_on : UnmovedKeepTheirOrder → (items : List Item) (e : Edit) → IsRearrangement items e → (p : Pair) → HasPair items p → HasPair (edited e items) p
pairs_on law items e is p has = which (is_moved e.moved p) refl
  where
    which : (b : Bool) → is_moved e.moved p ≡ b → HasPair (edited e items) p
    which true h = is.to p h
    which false h = unmoved_on law items e is p h has

pairs_back : UnmovedKeepTheirOrder → (items : List Item) (e : Edit) → IsRearrangement items e → (p : Pair) → HasPair (edited e items) p → HasPair items p
pairs_back law items e is p has = which (is_moved e.moved p) refl
  where
    which : (b : Bool) → is_moved e.moved p ≡ b → HasPair items p
    which true h = let w : StandsIn e.moved.out_of items p = is.from p h in (w.0, w.1)
    which false h = unmoved_back law items e is p h has

-- ---- The items of steps

abbrev IsAtItems : Step → Change → Type 0
IsAtItems k c = (c.at ≡ first_item k) ⊎ (c.at ≡ last_item k)

-- a step changes its items
changes_items : (items : List Item) (k : Step) (e : Edit) → IsStep items k e → AllByRecursion (IsAtItems k) e.changes
changes_items items (CutDecl n i) e c = subst (λ (d : Edit). AllByRecursion (IsAtItems (CutDecl n i)) d.changes) (sym c.is) (inl refl, tt)
changes_items items (CutSel n i) e c = subst (λ (d : Edit). AllByRecursion (IsAtItems (CutSel n i)) d.changes) (sym c.is) (inl refl, tt)
changes_items items (JoinSelUp x y) e j = subst (λ (d : Edit). AllByRecursion (IsAtItems (JoinSelUp x y)) d.changes) (sym j.is) (inl refl, (inr refl, tt))
changes_items items (JoinSelDown x y) e j = subst (λ (d : Edit). AllByRecursion (IsAtItems (JoinSelDown x y)) d.changes) (sym j.is) (inl refl, (inr refl, tt))
changes_items items (JoinDeclUp x y) e j = subst (λ (d : Edit). AllByRecursion (IsAtItems (JoinDeclUp x y)) d.changes) (sym j.is) (inl refl, (inr refl, tt))
changes_items items (JoinDeclDown x y) e j = subst (λ (d : Edit). AllByRecursion (IsAtItems (JoinDeclDown x y)) d.changes) (sym j.is) (inl refl, (inr refl, tt))
changes_items items (Share x y) e j = subst (λ (d : Edit). AllByRecursion (IsAtItems (Share x y)) d.changes) (sym j.is) (inl refl, (inr refl, tt))

-- what a step leaves is none of its items
none_of_items : (items : List Item) (k : Step) (e : Edit) (m : ℕ) → IsStep items k e → Leaves e m → (first_item k ≢ m) × (last_item k ≢ m)
none_of_items items (CutDecl n i) e m c leaves = let h : Leaves (cut_decl n i c.rule) m = subst (λ (d : Edit). Leaves d m) c.is leaves in (h.0, h.0)
none_of_items items (CutSel n i) e m c leaves = let h : Leaves (cut_selector n i c.rule) m = subst (λ (d : Edit). Leaves d m) c.is leaves in (h.0, h.0)
none_of_items items (JoinSelUp x y) e m j leaves = let h : Leaves (join_selectors_up x y j.upper j.lower) m = subst (λ (d : Edit). Leaves d m) j.is leaves in (h.0, h.1.0)
none_of_items items (JoinSelDown x y) e m j leaves = let h : Leaves (join_selectors_down x y j.upper j.lower) m = subst (λ (d : Edit). Leaves d m) j.is leaves in (h.0, h.1.0)
none_of_items items (JoinDeclUp x y) e m j leaves = let h : Leaves (join_decls_up x y j.upper j.lower) m = subst (λ (d : Edit). Leaves d m) j.is leaves in (h.0, h.1.0)
none_of_items items (JoinDeclDown x y) e m j leaves = let h : Leaves (join_decls_down x y j.upper j.lower) m = subst (λ (d : Edit). Leaves d m) j.is leaves in (h.0, h.1.0)
none_of_items items (Share x y) e m j leaves = let h : Leaves (share x y j.upper j.lower) m = subst (λ (d : Edit). Leaves d m) j.is leaves in (h.0, h.1.0)

-- and what is none of its items it leaves
leaves_others : (k : Step) (changes : List Change) (m : ℕ) → AllByRecursion (IsAtItems k) changes → first_item k ≢ m → last_item k ≢ m → AllByRecursion (λ (c : Change). c.at ≢ m) changes
leaves_others k [] m at first last = tt
leaves_others k (c ∷ changes) m at first last = (which at.0, leaves_others k changes m at.1 first last)
  where
    which : (c.at ≡ first_item k) ⊎ (c.at ≡ last_item k) → c.at ≢ m
    which (inl e) same = first (sym e ∙ same)
    which (inr e) same = last (sym e ∙ same)

in_range : (items : List Item) (k : Step) (e : Edit) → IsStep items k e → (first_item k < length items) × (last_item k < length items)
in_range items (CutDecl n i) e c = (slice_get_within items n (Rule c.rule) c.rule_at, slice_get_within items n (Rule c.rule) c.rule_at)
in_range items (CutSel n i) e c = (slice_get_within items n (Rule c.rule) c.rule_at, slice_get_within items n (Rule c.rule) c.rule_at)
in_range items (JoinSelUp x y) e j = (slice_get_within items x (Rule j.upper) j.rules.upper_at, slice_get_within items y (Rule j.lower) j.rules.lower_at)
in_range items (JoinSelDown x y) e j = (slice_get_within items x (Rule j.upper) j.rules.upper_at, slice_get_within items y (Rule j.lower) j.rules.lower_at)
in_range items (JoinDeclUp x y) e j = (slice_get_within items x (Rule j.upper) j.rules.upper_at, slice_get_within items y (Rule j.lower) j.rules.lower_at)
in_range items (JoinDeclDown x y) e j = (slice_get_within items x (Rule j.upper) j.rules.upper_at, slice_get_within items y (Rule j.lower) j.rules.lower_at)
in_range items (Share x y) e j = (slice_get_within items x (Rule j.upper) j.rules.upper_at, slice_get_within items y (Rule j.lower) j.rules.lower_at)

-- the changes of a step are left by an edit that leaves its items
all_left : (items : List Item) (k : Step) (d : Edit) (changes : List Change) → AllByRecursion (IsAtItems k) changes → IsOfOthers d k → (first_item k < length items) × (last_item k < length items) →
    AllByRecursion (λ (c : Change). Leaves d c.at × (c.at < length items)) changes
all_left items k d [] at others range = tt
all_left items k d (c ∷ changes) at others range = (which at.0, all_left items k d changes at.1 others range)
  where
    which : (c.at ≡ first_item k) ⊎ (c.at ≡ last_item k) → Leaves d c.at × (c.at < length items)
    which (inl e) = (subst (Leaves d) (sym e) others.0, subst (λ (m : ℕ). m < length items) (sym e) range.0)
    which (inr e) = (subst (Leaves d) (sym e) others.1, subst (λ (m : ℕ). m < length items) (sym e) range.1)

-- of two steps each leaves the items of the other
other_way : (items : List Item) (j k : Step) (d e : Edit) → IsStep items j d → IsStep items k e → IsOfOthers d k → IsOfOthers e j
other_way items j k d e step_j step_k others =
    let first = none_of_items items j d (first_item k) step_j others.0 in
    let last = none_of_items items j d (last_item k) step_j others.1 in
    let at = changes_items items k e step_k in (
      leaves_others k e.changes (first_item j) at (λ same. first.0 (sym same)) (λ same. last.0 (sym same)),
      leaves_others k e.changes (last_item j) at (λ same. first.1 (sym same)) (λ same. last.1 (sym same)),
    )

of_others : (items : List Item) (j k : Step) (d e : Edit) → IsStep items j d → IsStep items k e → IsOfOthers d k → AreOfOthers items d e
of_others items j k d e step_j step_k others = (
  all_left items k d e.changes (changes_items items k e step_k) others (in_range items k e step_k),
  all_left items j e d.changes (changes_items items j d step_j) (other_way items j k d e step_j step_k others) (in_range items j d step_j),
)

-- ---- Cuts behind a join

module _ (rearrange : StepsRearrange) (law : UnmovedKeepTheirOrder) (items : List Item) (k : Step) (d e : Edit) (step_k : IsStep items k e) (two : IsOfTwo k) (others : IsOfOthers d k) (both : AreOfOthers items d e)
    (room : (length (edited d items) ≤ length items) ⊎ (length (edited d items) < max_items)) where
  -- no pair goes by the cut behind the join either
  no_pair_goes : ((p : Pair) → HasPair items p → HasPair (edited d items) p) → (p : Pair) → HasPair (edited e items) p → HasPair (edited (renumbered_edit (new_number e items) d) (edited e items)) p
  no_pair_goes none_goes p has =
      let old : HasPair items p = pairs_back law items e (rearrange items k e step_k) p has in
      let then : IsStep (edited d items) (renumbered (new_number d items) k) (renumbered_edit (new_number d items) e) = joins_stay items d k e two others room step_k in
      let after : HasPair (edited (renumbered_edit (new_number d items) e) (edited d items)) p =
      pairs_on law (edited d items) (renumbered_edit (new_number d items) e) (rearrange (edited d items) (renumbered (new_number d items) k) (renumbered_edit (new_number d items) e) then) p (none_goes p old) in
      subst (λ (xs : List Item). HasPair xs p) (edits_commute items d e both) after

second_rearranges : StepsRearrange → CutsRearrange → UnmovedKeepTheirOrder → (items : List Item) (j k : Step) (d e : Edit) → IsStep items j d → IsStep items k e → IsOfTwo k → IsOfOthers d k → AreOfOthers items d e → IsOfOthers e j →
    (length (edited d items) ≤ length items) ⊎ (length (edited d items) < max_items) →
    (length (edited e items) ≤ length items) ⊎ (length (edited e items) < max_items) →
    IsRearrangement (edited e items) (renumbered_edit (new_number e items) d)
second_rearranges rearrange cuts law items (CutDecl n i) k d e c step_k two others both back room room' =
    let at : slice_get (edited e items) (new_number e items n) ≡ Some (Rule c.rule) = items_stay e items n (Rule c.rule) back.0 c.rule_at in
    let goes : (p : Pair) → HasPair (edited e items) p → HasPair (edited (renumbered_edit (new_number e items) d) (edited e items)) p =
    no_pair_goes rearrange law items k d e step_k two others both room (λ p h. subst (λ (x : Edit). HasPair (edited x items) p) (sym c.is) (c.no_pair_goes p h)) in
    subst (λ (x : Edit). IsRearrangement (edited e items) (renumbered_edit (new_number e items) x)) (sym c.is)
    ((cuts (edited e items) (new_number e items n) i c.rule at).0 (λ p h. subst (λ (x : Edit). HasPair (edited (renumbered_edit (new_number e items) x) (edited e items)) p) c.is (goes p h)))
second_rearranges rearrange cuts law items (CutSel n i) k d e c step_k two others both back room room' =
    let at : slice_get (edited e items) (new_number e items n) ≡ Some (Rule c.rule) = items_stay e items n (Rule c.rule) back.0 c.rule_at in
    let goes : (p : Pair) → HasPair (edited e items) p → HasPair (edited (renumbered_edit (new_number e items) d) (edited e items)) p =
    no_pair_goes rearrange law items k d e step_k two others both room (λ p h. subst (λ (x : Edit). HasPair (edited x items) p) (sym c.is) (c.no_pair_goes p h)) in
    subst (λ (x : Edit). IsRearrangement (edited e items) (renumbered_edit (new_number e items) x)) (sym c.is)
    ((cuts (edited e items) (new_number e items n) i c.rule at).1 (λ p h. subst (λ (x : Edit). HasPair (edited (renumbered_edit (new_number e items) x) (edited e items)) p) c.is (goes p h)))
second_rearranges rearrange cuts law items (JoinSelUp x y) k d e j step_k two others both back room room' =
    rearrange (edited e items) (renumbered (new_number e items) (JoinSelUp x y)) (renumbered_edit (new_number e items) d) (joins_stay items e (JoinSelUp x y) d tt back room' j)
second_rearranges rearrange cuts law items (JoinSelDown x y) k d e j step_k two others both back room room' =
    rearrange (edited e items) (renumbered (new_number e items) (JoinSelDown x y)) (renumbered_edit (new_number e items) d) (joins_stay items e (JoinSelDown x y) d tt back room' j)
second_rearranges rearrange cuts law items (JoinDeclUp x y) k d e j step_k two others both back room room' =
    rearrange (edited e items) (renumbered (new_number e items) (JoinDeclUp x y)) (renumbered_edit (new_number e items) d) (joins_stay items e (JoinDeclUp x y) d tt back room' j)
second_rearranges rearrange cuts law items (JoinDeclDown x y) k d e j step_k two others both back room room' =
    rearrange (edited e items) (renumbered (new_number e items) (JoinDeclDown x y)) (renumbered_edit (new_number e items) d) (joins_stay items e (JoinDeclDown x y) d tt back room' j)
second_rearranges rearrange cuts law items (Share x y) k d e j step_k two others both back room room' =
    rearrange (edited e items) (renumbered (new_number e items) (Share x y)) (renumbered_edit (new_number e items) d) (joins_stay items e (Share x y) d tt back room' j)

pub side_by_side : StepsRearrange → CutsRearrange → UnmovedKeepTheirOrder → (items : List Item) (j k : Step) (d e : Edit) → IsStep items j d → IsStep items k e → IsOfTwo k → IsOfOthers d k →
    (length (edited d items) ≤ length items) ⊎ (length (edited d items) < max_items) →
    (length (edited e items) ≤ length items) ⊎ (length (edited e items) < max_items) →
    AreSideBySide items d e
side_by_side rearrange cuts law items j k d e step_j step_k two others room room' =
    let both : AreOfOthers items d e = of_others items j k d e step_j step_k others in
    record {
      others = both;
      first = rearrange items j d step_j;
      second = second_rearranges rearrange cuts law items j k d e step_j step_k two others both (other_way items j k d e step_j step_k others) room room';
    }
