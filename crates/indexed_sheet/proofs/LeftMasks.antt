-- The masks of what a step leaves have the bits of its rules.
use Rattle.std.proofs.Common.{◌≡◌, ℕ, ◌<◌, Bool, true, false, set, List, [], ◌∷◌, ◌++◌, Some, map, length, refl, sym, ap, ap₂, ◌∙◌, subst, arith}
use Rattle.std.specs.Prelude.{bit_or, not, slice_get}
use Rattle.std.specs.List.{Contains, filter, remove}
use Rattle.std.proofs.lemmas.Nat.{or_comm}
use Rattle.std.proofs.lemmas.List.{map-append}
use Rattle.cascade_laws.proofs.ForCallers.{rule-same}
use Rattle.css_model.specs.declared.sheet.Decl.{Decl}
use Rattle.css_model.specs.declared.sheet.DeclItem.{DeclItem}
use Rattle.css_model.specs.declared.sheet.Item.{Item}
use Rattle.css_model.specs.declared.sheet.Item.TheVariants.{Rule}
use Rattle.css_model.specs.declared.sheet.SelItem.{SelItem}
use Rattle.css_model.specs.Documents.SelectorParts.{SelectorParts}
use Rattle.css_model.specs.Sheets.RuleParts.{RuleParts}
use Rattle.css_model.specs.Sheets.StyleRule.{HaveSameSelectors, joined, selectors_of}
use Rattle.item_masks.specs.declared.mask.ItemMask.{ItemMask}
use Rattle.item_masks.specs.Masks.{item_mask, selector_mask, with_selectors}
use Rattle.merge_steps.specs.StepParts.{IsJoinKind}
use Rattle.order_laws.proofs.ForCallers.{has_selector_is}
use Rattle.order_laws.specs.Members.{has_selector}
use Rattle.related_props.specs.Masks.{decl_mask, with_items}
use Rattle.step_laws.specs.declared.step.Step.{Step}
use Rattle.step_laws.specs.declared.step.Step.TheVariants.{CutDecl, CutSel, JoinSelUp, JoinSelDown, JoinDeclUp, JoinDeclDown, Share}
use Rattle.step_laws.specs.RuleParting.{both_selectors, common_decls, item_if_any, rule_or_none, without_decls}
use Rattle.step_laws.specs.StepEdits.{shared}
use Rattle.step_laws.specs.Steps.{HasStep, HaveSameDecls, edit_of, decls_of, first_item, last_item}
use Rattle.indexed_sheet.specs.Putting.{placeholder}
use Rattle.indexed_sheet.specs.LeftMasks.{AreOneWith, AreSharedWith, BothHaveSelectorsOf, CutHasSelectorsOf, HasSelectorsOf, HaveSelectorsOf, union}
use Rattle.indexed_sheet.proofs.EditPuts.{change}
use Rattle.indexed_sheet.proofs.MaskUnions.{bits_append, bits_have, bits_kept, bits_of, items_are, selectors_are}
use Rattle.indexed_sheet.proofs.Taken.{first_by, get_other, in_order, second_by}

-- ---- Joins of two rules with the same selectors

-- the declarations of both
families_append : (xs ys : List DeclItem) → bit_or (with_items 0 xs) (with_items 0 ys) ≡ with_items 0 (xs ++ ys)
families_append xs ys =
    ap₂ (λ (m n : ℕ). bit_or m n) (items_are xs) (items_are ys) ∙ sym (bits_append decl_mask (map (λ d. d.decl) xs) (map (λ d. d.decl) ys))
    ∙ ap (λ (ds : List Decl). bits_of decl_mask ds) (sym (map-append (λ d. d.decl) xs ys)) ∙ sym (items_are (xs ++ ys))

-- the selectors of either
selectors_have : (xs ys : List SelItem) → ((s : SelectorParts) → Contains (map (λ t. t.selector) ys) s → Contains (map (λ t. t.selector) xs) s) → bit_or (with_selectors 0 xs) (with_selectors 0 ys) ≡ with_selectors 0 xs
selectors_have xs ys all =
    ap₂ (λ (m n : ℕ). bit_or m n) (selectors_are xs) (selectors_are ys) ∙ bits_have selector_mask (map (λ t. t.selector) xs) (map (λ t. t.selector) ys) all ∙ sym (selectors_are xs)

abbrev mask : ℕ → ℕ → ItemMask
mask families selectors = record { families = families; selectors = selectors }

mask_is : (families families' selectors selectors' : ℕ) → families ≡ families' → selectors ≡ selectors' → mask families selectors ≡ mask families' selectors'
mask_is families families' selectors selectors' e f = ap₂ mask e f

abbrev IsUnion : RuleParts → RuleParts → RuleParts → Type 0
IsUnion u l made = union (item_mask (Rule u)) (item_mask (Rule l)) ≡ item_mask (Rule made)

pub selectors_up : (u l : RuleParts) → HaveSameSelectors u l → IsUnion u l (joined u l)
selectors_up u l same = mask_is _ _ _ _ (families_append u.decls l.decls) (selectors_have u.selectors l.selectors (λ s h. (same s).1 h))

pub selectors_down : (u l : RuleParts) → HaveSameSelectors u l → IsUnion u l (record { selectors = l.selectors; decls = u.decls ++ l.decls })
selectors_down u l same = mask_is _ _ _ _ (families_append u.decls l.decls)
    (or_comm (with_selectors 0 u.selectors) (with_selectors 0 l.selectors) ∙ selectors_have l.selectors u.selectors (λ s h. (same s).0 h))

-- ---- Joins of two rules with the same declarations

-- the selectors of both
abbrev is_new : RuleParts → SelItem → Bool
is_new u s = not (has_selector u.selectors s.selector)

not_false : (b : Bool) → not b ≡ false → b ≡ true
not_false true e = refl
not_false false e = absurd (let f : true ≡ false = e in cc)

selectors_append : (u l : RuleParts) → bit_or (with_selectors 0 u.selectors) (with_selectors 0 l.selectors) ≡ with_selectors 0 (both_selectors u l)
selectors_append u l =
    ap₂ (λ (m n : ℕ). bit_or m n) (selectors_are u.selectors) (selectors_are l.selectors)
    ∙ sym (bits_kept selector_mask (λ s. s.selector) (is_new u) (selectors_of u) l.selectors (λ s old. (has_selector_is u.selectors s.selector).0 (not_false (has_selector u.selectors s.selector) old)))
    ∙ sym (bits_append selector_mask (selectors_of u) (map (λ s. s.selector) (filter (is_new u) l.selectors)))
    ∙ ap (λ (ss : List SelectorParts). bits_of selector_mask ss) (sym (map-append (λ s. s.selector) u.selectors (filter (is_new u) l.selectors)))
    ∙ sym (selectors_are (both_selectors u l))

-- the declarations of either
families_same : (u l : RuleParts) → HaveSameDecls u l → bit_or (with_items 0 u.decls) (with_items 0 l.decls) ≡ with_items 0 u.decls
families_same u l same =
    ap₂ (λ (m n : ℕ). bit_or m n) (items_are u.decls) (items_are l.decls)
    ∙ bits_have decl_mask (decls_of u) (decls_of l) (λ d h. subst (λ (ds : List Decl). Contains ds d) (sym same) h) ∙ sym (items_are u.decls)

pub decls_up : (u l : RuleParts) → HaveSameDecls u l → IsUnion u l (record { selectors = both_selectors u l; decls = u.decls })
decls_up u l same = mask_is _ _ _ _ (families_same u l same) (selectors_append u l)

pub decls_down : (u l : RuleParts) → HaveSameDecls u l → IsUnion u l (record { selectors = both_selectors u l; decls = l.decls })
decls_down u l same = mask_is _ _ _ _
    (families_same u l same ∙ items_are u.decls ∙ ap (λ (ds : List Decl). bits_of decl_mask ds) same ∙ sym (items_are l.decls)) (selectors_append u l)

-- ---- What a step leaves

-- what may be joined, of the rules at its places
same_rule : (items : List Item) (n : ℕ) (r q : RuleParts) → slice_get items n ≡ Some (Rule r) → slice_get items n ≡ Some (Rule q) → r ≡ q
same_rule items n r q a b = cc

may_be : (May : RuleParts → RuleParts → Type 0) (u u' l l' : RuleParts) → u ≡ u' → l ≡ l' → May u l → May u' l'
may_be May u u' l l' e f may = subst (λ (r : RuleParts). May r l') e (subst (λ (q : RuleParts). May u q) f may)

-- the mask of one item, and of none
one_mask : (m : ItemMask) (r : RuleParts) → m ≡ item_mask (Rule r) → AreOneWith (Rule r ∷ []) m
one_mask m r is item e = let same : Rule r ≡ item = (let f : Rule r ∷ [] ≡ item ∷ [] = e in cc) in is ∙ ap item_mask same

no_mask : (m : ItemMask) → AreOneWith [] m
no_mask m item e = absurd (let f : 0 ≡ 1 = ap length e in omega (arith, f))

abbrev AreBothOneWith : List Item → List Item → ItemMask → Type 0
AreBothOneWith above below m = AreOneWith above m × AreOneWith below m

-- what is left of a rule, if anything is
if_any_is : (r q : RuleParts) (ss : List SelItem) (ds : List DeclItem) → item_if_any ss ds r ≡ Rule q ∷ [] → r ≡ q
if_any_is r q [] ds e = absurd (let f : 0 ≡ 1 = ap length e in omega (arith, f))
if_any_is r q (s ∷ ss) [] e = absurd (let f : 0 ≡ 1 = ap length e in omega (arith, f))
if_any_is r q (s ∷ ss) (d ∷ ds) e = rule-same (let f : Rule r ∷ [] ≡ Rule q ∷ [] = e in let g : Rule r ≡ Rule q = cc in g)

left_is : (r q : RuleParts) → rule_or_none r ≡ Rule q ∷ [] → r ≡ q
left_is r q e = if_any_is r q r.selectors r.decls e

-- a rule with the same selectors as another one has its bits of them
left_has : (r : RuleParts) (m : ItemMask) (items : List Item) → m.selectors ≡ with_selectors 0 r.selectors → rule_or_none r ≡ items → HaveSelectorsOf items m
left_has r m items is left q e = is ∙ ap (λ (p : RuleParts). with_selectors 0 p.selectors) (left_is r q (left ∙ e))

module _ (u l rest : RuleParts) (items : List Item) (below : Rule (shared u l) ∷ rule_or_none rest ≡ items) (same : rest.selectors ≡ l.selectors) where
  abbrev both : ItemMask
  both = union (item_mask (Rule u)) (item_mask (Rule l))

  first_has : (r : RuleParts) → shared u l ≡ r → HasSelectorsOf r both
  first_has r e = selectors_append u l ∙ ap (λ (p : RuleParts). with_selectors 0 p.selectors) e

  share_has : AreSharedWith items both (item_mask (Rule l))
  share_has = (
    λ r e. first_has r (rule-same (let f : Rule (shared u l) ∷ rule_or_none rest ≡ Rule r ∷ [] = below ∙ e in let g : Rule (shared u l) ≡ Rule r = cc in g)),
    λ r q e.
        let f : Rule (shared u l) ∷ rule_or_none rest ≡ Rule r ∷ Rule q ∷ [] = below ∙ e in
        let g : Rule (shared u l) ≡ Rule r = cc in
        let h : rule_or_none rest ≡ Rule q ∷ [] = cc in (
          first_has r (rule-same g),
          ap (with_selectors 0) (sym same) ∙ ap (λ (p : RuleParts). with_selectors 0 p.selectors) (left_is rest q h),
        ),
  )

masks_behind : (items : List Item) (k : Step) (u l : RuleParts) (above below : List Item) → IsJoinKind k → HasStep items k → slice_get items (first_item k) ≡ Some (Rule u) → slice_get items (last_item k) ≡ Some (Rule l) →
    (edit_of k u l).changes ≡ change (first_item k) above ∷ change (last_item k) below ∷ [] → BothHaveSelectorsOf k above below (item_mask (Rule u)) (item_mask (Rule l))
masks_behind items k u l above below join has upper_at lower_at is = which k join has upper_at lower_at (ap first_by is) (ap second_by is)
  where
    up : (made : RuleParts) (m : ItemMask) → m ≡ item_mask (Rule made) → Rule made ∷ [] ≡ above → [] ≡ below → AreBothOneWith above below m
    up made m mask e f = (subst (λ (by : List Item). AreOneWith by m) e (one_mask m made mask), subst (λ (by : List Item). AreOneWith by m) f (no_mask m))

    down : (made : RuleParts) (m : ItemMask) → m ≡ item_mask (Rule made) → [] ≡ above → Rule made ∷ [] ≡ below → AreBothOneWith above below m
    down made m mask e f = (subst (λ (by : List Item). AreOneWith by m) e (no_mask m), subst (λ (by : List Item). AreOneWith by m) f (one_mask m made mask))

    which : (k : Step) → IsJoinKind k → HasStep items k → slice_get items (first_item k) ≡ Some (Rule u) → slice_get items (last_item k) ≡ Some (Rule l) →
        first_by (edit_of k u l).changes ≡ above → second_by (edit_of k u l).changes ≡ below → BothHaveSelectorsOf k above below (item_mask (Rule u)) (item_mask (Rule l))
    which (CutDecl n i) join h at at' e f = absurd join
    which (CutSel n i) join h at at' e f = absurd join
    which (Share x y) join h at at' e f = (
      left_has (without_decls (common_decls u l) u) (item_mask (Rule u)) above refl e,
      share_has u l (without_decls (common_decls u l) l) below f refl,
    )
    which (JoinSelUp x y) join (d, j) at at' e f =
        let same : HaveSameSelectors u l = may_be HaveSameSelectors j.upper u j.lower l (same_rule items x j.upper u j.rules.upper_at at) (same_rule items y j.lower l j.rules.lower_at at') j.may in
        up (joined u l) _ (selectors_up u l same) e f
    which (JoinSelDown x y) join (d, j) at at' e f =
        let same : HaveSameSelectors u l = may_be HaveSameSelectors j.upper u j.lower l (same_rule items x j.upper u j.rules.upper_at at) (same_rule items y j.lower l j.rules.lower_at at') j.may in
        down (record { selectors = l.selectors; decls = u.decls ++ l.decls }) _ (selectors_down u l same) e f
    which (JoinDeclUp x y) join (d, j) at at' e f =
        let same : HaveSameDecls u l = may_be HaveSameDecls j.upper u j.lower l (same_rule items x j.upper u j.rules.upper_at at) (same_rule items y j.lower l j.rules.lower_at at') j.may in
        up (record { selectors = both_selectors u l; decls = u.decls }) _ (decls_up u l same) e f
    which (JoinDeclDown x y) join (d, j) at at' e f =
        let same : HaveSameDecls u l = may_be HaveSameDecls j.upper u j.lower l (same_rule items x j.upper u j.rules.upper_at at) (same_rule items y j.lower l j.rules.lower_at at') j.may in
        down (record { selectors = both_selectors u l; decls = l.decls }) _ (decls_down u l same) e f

-- and so of the masks that were there before
pub masks_known : (items lifted : List Item) (k : Step) (x y : ℕ) (u l : RuleParts) (above below : List Item) (m n : ItemMask) → IsJoinKind k → HasStep items k → x ≡ first_item k → y ≡ last_item k →
    slice_get items x ≡ Some (Rule u) → lifted ≡ set items x placeholder → slice_get lifted y ≡ Some (Rule l) → (edit_of k u l).changes ≡ change (first_item k) above ∷ change (last_item k) below ∷ [] →
    ((item : Item) → slice_get items x ≡ Some item → m ≡ item_mask item) → ((item : Item) → slice_get items y ≡ Some item → n ≡ item_mask item) → BothHaveSelectorsOf k above below m n
masks_known items lifted k x y u l above below m n join has first last upper_at lifted_is lifted_at is upper_mask lower_mask =
    let less : x < y = (let h : first_item k < last_item k = in_order items k join has in omega (arith, h, first, last)) in
    let lower_at : slice_get items y ≡ Some (Rule l) = sym (get_other items x y placeholder less) ∙ ap (λ (its : List Item). slice_get its y) (sym lifted_is) ∙ lifted_at in
    subst (λ (a : ItemMask). BothHaveSelectorsOf k above below a n) (sym (upper_mask (Rule u) upper_at))
    (subst (λ (b : ItemMask). BothHaveSelectorsOf k above below (item_mask (Rule u)) b) (sym (lower_mask (Rule l) lower_at))
    (masks_behind items k u l above below join has (subst (λ (i : ℕ). slice_get items i ≡ Some (Rule u)) first upper_at) (subst (λ (i : ℕ). slice_get items i ≡ Some (Rule l)) last lower_at) is))

-- what a cut leaves
pub cut_mask_known : (items : List Item) (k : Step) (x : ℕ) (r : RuleParts) (left : List Item) (m : ItemMask) → slice_get items x ≡ Some (Rule r) → (edit_of k r r).changes ≡ change (first_item k) left ∷ [] →
    ((item : Item) → slice_get items x ≡ Some item → m ≡ item_mask item) → CutHasSelectorsOf k left m
cut_mask_known items (CutDecl n i) x r left m at is mask =
    left_has (record { selectors = r.selectors; decls = remove r.decls i }) m left (ap (λ (a : ItemMask). a.selectors) (mask (Rule r) at)) (ap first_by is)
cut_mask_known items (CutSel n i) x r left m at is mask = tt
cut_mask_known items (JoinSelUp a b) x r left m at is mask = tt
cut_mask_known items (JoinSelDown a b) x r left m at is mask = tt
cut_mask_known items (JoinDeclUp a b) x r left m at is mask = tt
cut_mask_known items (JoinDeclDown a b) x r left m at is mask = tt
cut_mask_known items (Share a b) x r left m at is mask = tt
