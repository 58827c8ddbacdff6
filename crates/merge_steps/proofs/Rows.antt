-- The list of all steps while it is made.
use Rattle.std.proofs.Common.{◌≡◌, ◌↔◌, ◌⊎◌, ℕ, zero, suc, ◌+◌, ◌≤◌, ◌<◌, ◌==◌, nat_lt, Bool, true, false, List, [], ◌∷◌, ◌++◌, length, Option, refl, sym, ap, ap₂, subst, inl, inr, ◌∙◌, arith}
use Rattle.std.specs.Prelude.{get_or, slice_get}
use Rattle.std.specs.List.{Contains}
use Rattle.std.proofs.lemmas.Bool.{lt-ltb, ltb-true, ltb-false, or_left, or_right}
use Rattle.std.proofs.lemmas.Bool.Decides.{Decides-eqb}
use Rattle.std.proofs.lemmas.List.Elements.{Contains-append_left, Contains-append_right, Contains-append_cases}
use Rattle.std.proofs.lemmas.List.Quantifiers.{all_pairs_push}
use Rattle.list_facts.proofs.Members.{Contains-here, Contains-there, Contains-nil, Contains-cons_cases}
use Rattle.css_model.specs.declared.sheet.Item.{Item}
use Rattle.css_model.specs.declared.sheet.Item.TheVariants.{Rule, KeptRule, KeptBlock}
use Rattle.css_model.specs.Cascade.Winner.{exceeds}
use Rattle.css_model.specs.Sheets.Limits.{max_bytes, max_items}
use Rattle.merge_steps.proofs.Among.{together}
use Rattle.merge_steps.proofs.Cuts.{number_of}
use Rattle.merge_steps.specs.Listing.{seconds, decl_number, selector_number, IsBelow, ListsTo}
use Rattle.step_kinds.specs.declared.kind.Kind.{Kind}
use Rattle.step_kinds.specs.declared.kind.Kind.TheVariants.{DeclCut, SelCut, SelJoinUp, SelJoinDown, DeclJoinUp, DeclJoinDown, Sharing}
use Rattle.step_kinds.specs.StepsByKind.{step_of_kind, kind_of, second_of, kind_number}
use Rattle.step_kinds.proofs.ForCallers.{same_kind, few_kinds, rank_is, made_of, kind_is, first_is, second_is}
use Rattle.step_laws.specs.declared.step.Step.{Step}
use Rattle.step_laws.specs.declared.step.Step.TheVariants.{CutDecl, CutSel, JoinSelUp, JoinSelDown, JoinDeclUp, JoinDeclDown, Share}
use Rattle.step_laws.specs.Sizes.{part_count}
use Rattle.step_laws.specs.Steps.{HasStep, StandsBefore, first_item, rank}

-- ---- Steps by their numbers

step_here : (k : Step) (kind : Kind) (m n : ℕ) → kind_number (kind_of k) ≡ kind_number kind → first_item k ≡ m → second_of k ≡ n → k ≡ step_of_kind kind m n
step_here k kind m n e f g =
    made_of k ∙ ap (λ (c : Kind). step_of_kind c (first_item k) (second_of k)) (same_kind (kind_of k) kind e) ∙ ap₂ (step_of_kind kind) f g

-- ---- Which numbers a step of a sheet has

in_range : (items : List Item) (k : Step) → HasStep items k → (first_item k < length items) × (second_of k < seconds items (kind_of k) (first_item k))
in_range items (CutDecl n i) (e, is) = (number_of items n (Rule is.rule) is.rule_at, subst (λ (item : Option Item). i < decl_number item) (sym is.rule_at) is.part)
in_range items (CutSel n i) (e, is) = (number_of items n (Rule is.rule) is.rule_at, subst (λ (item : Option Item). i < selector_number item) (sym is.rule_at) is.part)
in_range items (JoinSelUp x y) (e, is) = (number_of items x (Rule is.upper) is.rules.upper_at, number_of items y (Rule is.lower) is.rules.lower_at)
in_range items (JoinSelDown x y) (e, is) = (number_of items x (Rule is.upper) is.rules.upper_at, number_of items y (Rule is.lower) is.rules.lower_at)
in_range items (JoinDeclUp x y) (e, is) = (number_of items x (Rule is.upper) is.rules.upper_at, number_of items y (Rule is.lower) is.rules.lower_at)
in_range items (JoinDeclDown x y) (e, is) = (number_of items x (Rule is.upper) is.rules.upper_at, number_of items y (Rule is.lower) is.rules.lower_at)
in_range items (Share x y) (e, is) = (number_of items x (Rule is.upper) is.rules.upper_at, number_of items y (Rule is.lower) is.rules.lower_at)

-- the parts of one rule are among those of the sheet
decls_few : (items : List Item) (n : ℕ) → decl_number (slice_get items n) ≤ part_count items
decls_few [] n = omega arith
decls_few (Rule r ∷ items) zero = let e : length r.decls ≤ length r.selectors + length r.decls + part_count items = omega arith in e
decls_few (KeptRule k ∷ items) zero = omega arith
decls_few (KeptBlock b ∷ items) zero = omega arith
decls_few (Rule r ∷ items) (suc n) = let ih : decl_number (slice_get items n) ≤ part_count items = decls_few items n in
    let e : decl_number (slice_get items n) ≤ length r.selectors + length r.decls + part_count items = omega (arith, ih) in e
decls_few (KeptRule k ∷ items) (suc n) = decls_few items n
decls_few (KeptBlock b ∷ items) (suc n) = decls_few items n

selectors_few : (items : List Item) (n : ℕ) → selector_number (slice_get items n) ≤ part_count items
selectors_few [] n = omega arith
selectors_few (Rule r ∷ items) zero = let e : length r.selectors ≤ length r.selectors + length r.decls + part_count items = omega arith in e
selectors_few (KeptRule k ∷ items) zero = omega arith
selectors_few (KeptBlock b ∷ items) zero = omega arith
selectors_few (Rule r ∷ items) (suc n) = let ih : selector_number (slice_get items n) ≤ part_count items = selectors_few items n in
    let e : selector_number (slice_get items n) ≤ length r.selectors + length r.decls + part_count items = omega (arith, ih) in e
selectors_few (KeptRule k ∷ items) (suc n) = selectors_few items n
selectors_few (KeptBlock b ∷ items) (suc n) = selectors_few items n

pub seconds_few : (items : List Item) (kind : Kind) (first : ℕ) → length items ≤ max_items → part_count items ≤ max_bytes → seconds items kind first ≤ max_bytes
seconds_few items DeclCut first few parts = let h : decl_number (slice_get items first) ≤ part_count items = decls_few items first in omega (arith, h, parts)
seconds_few items SelCut first few parts = let h : selector_number (slice_get items first) ≤ part_count items = selectors_few items first in omega (arith, h, parts)
seconds_few items SelJoinUp first few parts = omega (arith, few)
seconds_few items SelJoinDown first few parts = omega (arith, few)
seconds_few items DeclJoinUp first few parts = omega (arith, few)
seconds_few items DeclJoinDown first few parts = omega (arith, few)
seconds_few items Sharing first few parts = omega (arith, few)

-- ---- The order

before_here : (kind first second : ℕ) (j k : Step) → IsBelow kind first second j → kind_number (kind_of k) ≡ kind → first_item k ≡ first → second_of k ≡ second → StandsBefore j k
before_here kind first second j k below e f g = ap₂ exceeds (rank_is k) (rank_is j) ∙ which below
  where
    a : ℕ
    a = kind_number (kind_of j)

    which : (kind_number (kind_of j) < kind) ⊎ ((kind_number (kind_of j) ≡ kind) × ((first_item j < first) ⊎ ((first_item j ≡ first) × (second_of j < second)))) →
        exceeds (kind_number (kind_of k) ∷ first_item k ∷ second_of k ∷ []) (kind_number (kind_of j) ∷ first_item j ∷ second_of j ∷ []) ≡ true
    which (inl h) = or_left (nat_lt (kind_number (kind_of j)) (kind_number (kind_of k))) _ (lt-ltb (kind_number (kind_of j)) (kind_number (kind_of k)) (omega (arith, h, e)))
    which (inr (same, inl h)) =
        or_right (nat_lt (kind_number (kind_of j)) (kind_number (kind_of k))) _
        (together (kind_number (kind_of k) == kind_number (kind_of j)) _ ((Decides-eqb (kind_number (kind_of k)) (kind_number (kind_of j))).1 (e ∙ sym same))
        (or_left (nat_lt (first_item j) (first_item k)) _ (lt-ltb (first_item j) (first_item k) (omega (arith, h, f)))))
    which (inr (same, inr (same', h))) =
        or_right (nat_lt (kind_number (kind_of j)) (kind_number (kind_of k))) _
        (together (kind_number (kind_of k) == kind_number (kind_of j)) _ ((Decides-eqb (kind_number (kind_of k)) (kind_number (kind_of j))).1 (e ∙ sym same))
        (or_right (nat_lt (first_item j) (first_item k)) _
        (together (first_item k == first_item j) _ ((Decides-eqb (first_item k) (first_item j)).1 (f ∙ sym same'))
        (or_left (nat_lt (second_of j) (second_of k)) _ (lt-ltb (second_of j) (second_of k) (omega (arith, h, g)))))))

-- ---- One step further

in_list : {X : Type 0} (xs : List X) (n : ℕ) (d : X) → n < length xs → Contains xs (get_or xs n d)
in_list [] n d less = absurd (omega (arith, less))
in_list (x ∷ xs) zero d less = Contains-here x xs
in_list (x ∷ xs) (suc n) d less = Contains-there x xs (get_or xs n d) (in_list xs n d (omega (arith, less)))

one_more : (kind first second : ℕ) (k : Step) → IsBelow kind first second k → IsBelow kind first (second + 1) k
one_more kind first second k (inl h) = inl h
one_more kind first second k (inr (e, inl h)) = inr (e, inl h)
one_more kind first second k (inr (e, inr (f, h))) = inr (e, inr (f, omega (arith, h)))

one_less : (kind first second : ℕ) (k : Step) → IsBelow kind first (second + 1) k → IsBelow kind first second k ⊎ ((kind_number (kind_of k) ≡ kind) × (first_item k ≡ first) × (second_of k ≡ second))
one_less kind first second k (inl h) = inl (inl h)
one_less kind first second k (inr (e, inl h)) = inl (inr (e, inl h))
one_less kind first second k (inr (e, inr (f, h))) = which (nat_lt (second_of k) second) refl
  where
    which : (b : Bool) → nat_lt (second_of k) second ≡ b → IsBelow kind first second k ⊎ ((kind_number (kind_of k) ≡ kind) × (first_item k ≡ first) × (second_of k ≡ second))
    which true g = inl (inr (e, inr (f, ltb-true (second_of k) second g)))
    which false g = inr (e, f, omega (arith, h, ltb-false (second_of k) second g))

pub pushed : (items : List Item) (list : List Step) (kind : Kind) (first second : ℕ) → ListsTo items (kind_number kind) first second list → HasStep items (step_of_kind kind first second) →
    ListsTo items (kind_number kind) first (second + 1) (list ++ step_of_kind kind first second ∷ [])
pushed items list kind first second lists has = record {
  exact = λ k. (there k, back k);
  ascends = all_pairs_push StandsBefore list (step_of_kind kind first second) lists.ascends
      (λ n d less. before_here (kind_number kind) first second (get_or list n d) (step_of_kind kind first second) ((lists.exact (get_or list n d)).0 (in_list list n d less)).1
      (ap kind_number (kind_is kind first second)) (first_is kind first second) (second_is kind first second));
}
  where
    new : Step
    new = step_of_kind kind first second

    here : IsBelow (kind_number kind) first (second + 1) (step_of_kind kind first second)
    here = inr (ap kind_number (kind_is kind first second), inr (first_is kind first second, let same : second_of (step_of_kind kind first second) ≡ second = second_is kind first second in omega (arith, same)))

    there : (k : Step) → Contains (list ++ step_of_kind kind first second ∷ []) k → HasStep items k × IsBelow (kind_number kind) first (second + 1) k
    there k h = which (Contains-append_cases list (step_of_kind kind first second ∷ []) k h)
      where
        last : (step_of_kind kind first second ≡ k) ⊎ Contains [] k → HasStep items k × IsBelow (kind_number kind) first (second + 1) k
        last (inl e) = (subst (HasStep items) e has, subst (IsBelow (kind_number kind) first (second + 1)) e here)
        last (inr c) = absurd (Contains-nil k c)

        which : Contains list k ⊎ Contains (step_of_kind kind first second ∷ []) k → HasStep items k × IsBelow (kind_number kind) first (second + 1) k
        which (inl c) = let w = (lists.exact k).0 c in (w.0, one_more (kind_number kind) first second k w.1)
        which (inr c) = last (Contains-cons_cases (step_of_kind kind first second) [] k c)

    back : (k : Step) → HasStep items k × IsBelow (kind_number kind) first (second + 1) k → Contains (list ++ step_of_kind kind first second ∷ []) k
    back k (has', below) = which (one_less (kind_number kind) first second k below)
      where
        which : IsBelow (kind_number kind) first second k ⊎ ((kind_number (kind_of k) ≡ kind_number kind) × (first_item k ≡ first) × (second_of k ≡ second)) → Contains (list ++ step_of_kind kind first second ∷ []) k
        which (inl b) = Contains-append_left list (step_of_kind kind first second ∷ []) k ((lists.exact k).1 (has', b))
        which (inr (e, f, g)) = Contains-append_right list (step_of_kind kind first second ∷ []) k
            (subst (Contains (step_of_kind kind first second ∷ [])) (sym (step_here k kind first second e f g)) (Contains-here (step_of_kind kind first second) []))

pub skipped : (items : List Item) (list : List Step) (kind : Kind) (first second : ℕ) → ListsTo items (kind_number kind) first second list → (HasStep items (step_of_kind kind first second) → ⊥) →
    ListsTo items (kind_number kind) first (second + 1) list
skipped items list kind first second lists none = record { exact = λ k. (there k, back k); ascends = lists.ascends }
  where
    there : (k : Step) → Contains list k → HasStep items k × IsBelow (kind_number kind) first (second + 1) k
    there k c = let w = (lists.exact k).0 c in (w.0, one_more (kind_number kind) first second k w.1)

    back : (k : Step) → HasStep items k × IsBelow (kind_number kind) first (second + 1) k → Contains list k
    back k (has, below) = which (one_less (kind_number kind) first second k below)
      where
        which : IsBelow (kind_number kind) first second k ⊎ ((kind_number (kind_of k) ≡ kind_number kind) × (first_item k ≡ first) × (second_of k ≡ second)) → Contains list k
        which (inl b) = (lists.exact k).1 (has, b)
        which (inr (e, f, g)) = absurd (none (subst (HasStep items) (step_here k kind first second e f g) has))

-- ---- A row further, and a kind

pub row_done : (items : List Item) (list : List Step) (kind : Kind) (first : ℕ) → ListsTo items (kind_number kind) first (seconds items kind first) list → ListsTo items (kind_number kind) (first + 1) 0 list
row_done items list kind first lists = record { exact = λ k. (there k, back k); ascends = lists.ascends }
  where
    on : (k : Step) → IsBelow (kind_number kind) first (seconds items kind first) k → IsBelow (kind_number kind) (first + 1) 0 k
    on k (inl h) = inl h
    on k (inr (e, inl h)) = inr (e, inl (omega (arith, h)))
    on k (inr (e, inr (f, h))) = inr (e, inl (omega (arith, f)))

    there : (k : Step) → Contains list k → HasStep items k × IsBelow (kind_number kind) (first + 1) 0 k
    there k c = let w = (lists.exact k).0 c in (w.0, on k w.1)

    back : (k : Step) → HasStep items k × IsBelow (kind_number kind) (first + 1) 0 k → Contains list k
    back k (has, below) = (lists.exact k).1 (has, off below)
      where
        last : (kind_number (kind_of k) ≡ kind_number kind) → first_item k ≡ first → second_of k < seconds items kind first
        last e f = subst (λ (n : ℕ). second_of k < seconds items kind n) f (subst (λ (c : Kind). second_of k < seconds items c (first_item k)) (same_kind (kind_of k) kind e) (in_range items k has).1)

        which : (kind_number (kind_of k) ≡ kind_number kind) → first_item k < first + 1 → (b : Bool) → nat_lt (first_item k) first ≡ b → IsBelow (kind_number kind) first (seconds items kind first) k
        which e h true g = inr (e, inl (ltb-true (first_item k) first g))
        which e h false g = let f : first_item k ≡ first = omega (arith, h, ltb-false (first_item k) first g) in inr (e, inr (f, last e f))

        off : IsBelow (kind_number kind) (first + 1) 0 k → IsBelow (kind_number kind) first (seconds items kind first) k
        off (inl h) = inl h
        off (inr (e, inl h)) = which e h (nat_lt (first_item k) first) refl
        off (inr (e, inr (f, h))) = absurd (omega (arith, h))

pub kind_done : (items : List Item) (list : List Step) (kind first : ℕ) → first ≡ length items → ListsTo items kind first 0 list → ListsTo items (kind + 1) 0 0 list
kind_done items list kind first all lists = record { exact = λ k. (there k, back k); ascends = lists.ascends }
  where
    on : (k : Step) → IsBelow kind first 0 k → IsBelow (kind + 1) 0 0 k
    on k (inl h) = inl (omega (arith, h))
    on k (inr (e, h)) = inl (omega (arith, e))

    there : (k : Step) → Contains list k → HasStep items k × IsBelow (kind + 1) 0 0 k
    there k c = let w = (lists.exact k).0 c in (w.0, on k w.1)

    back : (k : Step) → HasStep items k × IsBelow (kind + 1) 0 0 k → Contains list k
    back k (has, below) = (lists.exact k).1 (has, off below)
      where
        which : kind_number (kind_of k) < kind + 1 → (b : Bool) → nat_lt (kind_number (kind_of k)) kind ≡ b → IsBelow kind first 0 k
        which h true g = inl (ltb-true (kind_number (kind_of k)) kind g)
        which h false g = inr (omega (arith, h, ltb-false (kind_number (kind_of k)) kind g), inl (let less : first_item k < length items = (in_range items k has).0 in omega (arith, less, all)))

        off : IsBelow (kind + 1) 0 0 k → IsBelow kind first 0 k
        off (inl h) = which h (nat_lt (kind_number (kind_of k)) kind) refl
        off (inr (e, inl h)) = absurd (omega (arith, h))
        off (inr (e, inr (f, h))) = absurd (omega (arith, h))

-- ---- From none to all

pub none_listed : (items : List Item) → ListsTo items 0 0 0 []
none_listed items = record { exact = λ k. (λ c. absurd (Contains-nil k c), λ w. absurd (nothing k w.1)); ascends = λ i j d less short. absurd (omega (arith, short)) }
  where
    nothing : (k : Step) → IsBelow 0 0 0 k → ⊥
    nothing k (inl h) = omega (arith, h)
    nothing k (inr (e, inl h)) = omega (arith, h)
    nothing k (inr (e, inr (f, h))) = omega (arith, h)

pub all_listed : (items : List Item) (list : List Step) → ListsTo items 7 0 0 list → (k : Step) → Contains list k ↔ HasStep items k
all_listed items list lists k = (λ c. ((lists.exact k).0 c).0, λ has. (lists.exact k).1 (has, inl (few_kinds (kind_of k))))
