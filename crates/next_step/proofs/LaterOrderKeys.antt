-- Steps of an item with others, as the order keys of these ascend.
use Rattle.std.proofs.Common.{◌≡◌, ◌⊎◌, ℕ, suc, ◌+◌, ◌<◌, ◌≤◌, Bool, cond, List, [], ◌∷◌, length, refl, sym, ap, subst, inl, inr, ◌∙◌, ap₂, Some, arith}
use Rattle.std.specs.Prelude.{slice_get, slice_index}
use Rattle.std.specs.List.{Contains}
use Rattle.std.specs.List.Sorted.{IsStrictlyIncreasing}
use Rattle.std.proofs.lemmas.Bool.{le-ltb, lt-ltb}
use Rattle.list_facts.proofs.Members.{Contains-cons_cases, Contains-nil}
use Rattle.step_kinds.specs.declared.kind.Kind.{Kind}
use Rattle.step_kinds.specs.StepsByKind.{kind_of, step_of_kind}
use Rattle.order_laws.specs.Edits.{Edit}
use Rattle.indexed_sheet.specs.IndexedParts.{IndexedParts}
use Rattle.indexed_sheet.specs.declared.marks.Mark.{Mark}
use Rattle.indexed_sheet.specs.MarkList.{AreMarks, order_keys_of}
use Rattle.step_laws.specs.declared.step.Step.{Step}
use Rattle.step_laws.specs.declared.step.Step.TheVariants.{CutDecl, CutSel, JoinSelUp, JoinSelDown, JoinDeclUp, JoinDeclDown, Share}
use Rattle.step_laws.specs.Sizes.{Saves}
use Rattle.step_laws.specs.Steps.{IsStep, first_item, last_item}
use Rattle.next_step.specs.Late.{IsFrom, IsLate}
use Rattle.next_step.specs.LaterOrderKeys.{AreLateFrom, AreOnOneSide, step_of_order_keys}
use Rattle.next_step.specs.Looking.{FoundParts, IsWith}
use Rattle.next_step.specs.Viewed.{CoversIn, Grows}
use Rattle.next_step.specs.declared.view.View.{View}
use Rattle.next_step.proofs.Looking.{kept_covers}
use Rattle.next_step.proofs.Owned.{order_of}
use Rattle.next_step.proofs.StepParts.{order_key_at}
use Rattle.next_step.proofs.Telling.{in_order}
use Rattle.plan_laws.specs.Barrier.Renumbering.{IsOfTwo, renumbered}

-- ---- Order keys that ascend

pub ascends_behind : (order_key : ℕ) (order_keys : List ℕ) → IsStrictlyIncreasing (order_key ∷ order_keys) → IsStrictlyIncreasing order_keys
ascends_behind order_key order_keys ascends = λ k less.
    let h : slice_index (order_key ∷ order_keys) (suc k) < slice_index (order_key ∷ order_keys) (suc k + 1) = ascends (suc k) (let l : k + 1 < length order_keys = less in omega (arith, l)) in
    subst (λ (i : ℕ). slice_index order_keys k < slice_index (order_key ∷ order_keys) i) (let e : suc k + 1 ≡ suc (k + 1) = omega arith in e) h

pub first_is_least : (order_key : ℕ) (order_keys : List ℕ) → IsStrictlyIncreasing (order_key ∷ order_keys) → (x : ℕ) → Contains (order_key ∷ order_keys) x → order_key ≤ x
first_is_least order_key [] ascends x among = elim (Contains-cons_cases order_key [] x among) [ inl e ↦ (let f : order_key ≡ x = e in omega (arith, f)) | inr h ↦ absurd (Contains-nil x h) ]
first_is_least order_key (y ∷ order_keys) ascends x among = elim (Contains-cons_cases order_key (y ∷ order_keys) x among) [
  | inl e ↦ (let f : order_key ≡ x = e in omega (arith, f))
  | inr h ↦ (
      let less : order_key < y = ascends 0 (omega arith) in
      let rest : y ≤ x = first_is_least y order_keys (ascends_behind order_key (y ∷ order_keys) ascends) x h in
      omega (arith, less, rest))
]

-- ---- Steps by the order keys of their items

step_above : (kind : Kind) (at order_key : ℕ) → order_key < at → step_of_order_keys kind at order_key ≡ step_of_kind kind order_key at
step_above kind at order_key less = ap (λ (b : Bool). cond b (step_of_kind kind order_key at) (step_of_kind kind at order_key)) (lt-ltb order_key at less)

step_below : (kind : Kind) (at order_key : ℕ) → at < order_key → step_of_order_keys kind at order_key ≡ step_of_kind kind at order_key
step_below kind at order_key less = ap (λ (b : Bool). cond b (step_of_kind kind order_key at) (step_of_kind kind at order_key)) (le-ltb order_key at (omega (arith, less)))

pub two_named : (names : List ℕ) (k : Step) → IsOfTwo k → renumbered (λ m. slice_index names m) k ≡ step_of_kind (kind_of k) (slice_index names (first_item k)) (slice_index names (last_item k))
two_named names (CutDecl n i) two = absurd two
two_named names (CutSel n i) two = absurd two
two_named names (JoinSelUp x y) two = refl
two_named names (JoinSelDown x y) two = refl
two_named names (JoinDeclUp x y) two = refl
two_named names (JoinDeclDown x y) two = refl
two_named names (Share x y) two = refl

-- ---- Steps that are late, as their order keys are

module _ (source : List ℕ) (indexed : IndexedParts) (next : ℕ) (are : AreMarks indexed.marks next) (found : FoundParts) (kind : Kind) (at order_key most number : ℕ)
    (named_at : slice_index (order_keys_of indexed.marks) number ≡ at) (late : AreLateFrom found.others kind at order_key most) where
  -- a step of an item with another one, whose order key is no earlier one on the same side
  pub late_with : (later : ℕ) (k : Step) → order_key ≤ later → AreOnOneSide at order_key later → IsWith indexed number later k → ((x y : ℕ) → IsFrom (step_of_kind kind x y) (step_of_kind (kind_of k) x y)) →
      ((e : Edit) (n : ℕ) → IsStep indexed.items k e → Saves source indexed.items e n → n ≤ most) → IsLate source indexed found k
  late_with later k least side w kinds few e n is saves = late n later (renumbered (λ m. slice_index (order_keys_of indexed.marks) m) k) (few e n is saves) least side (which w.items_are)
    where
      in_place : (i j : ℕ) (a b : Mark) → first_item k ≡ i → last_item k ≡ j → slice_get indexed.marks i ≡ Some a → slice_get indexed.marks j ≡ Some b → a.order_key < b.order_key
      in_place i j a b first last at_i at_j = in_order (λ m n. m.order_key < n.order_key) indexed.marks are.ascend i j a b
          (subst (λ (z : ℕ). i < z) last (subst (λ (z : ℕ). z < last_item k) first (order_of indexed.items k e w.of_two is))) at_i at_j

      own_is : w.own.order_key ≡ at
      own_is = sym (order_key_at indexed.marks number w.own w.own_at) ∙ named_at

      step_is : (i j x y : ℕ) → first_item k ≡ i → last_item k ≡ j → slice_index (order_keys_of indexed.marks) i ≡ x → slice_index (order_keys_of indexed.marks) j ≡ y →
          renumbered (λ m. slice_index (order_keys_of indexed.marks) m) k ≡ step_of_kind (kind_of k) x y
      step_is i j x y first last here there =
          two_named (order_keys_of indexed.marks) k w.of_two ∙ ap₂ (step_of_kind (kind_of k)) (ap (slice_index (order_keys_of indexed.marks)) first ∙ here) (ap (slice_index (order_keys_of indexed.marks)) last ∙ there)

      other_is : slice_index (order_keys_of indexed.marks) w.other ≡ later
      other_is = order_key_at indexed.marks w.other w.mark w.mark_at ∙ w.order_key_is

      which : ((first_item k ≡ w.other) × (last_item k ≡ number)) ⊎ ((first_item k ≡ number) × (last_item k ≡ w.other)) → IsFrom (step_of_order_keys kind at later) (renumbered (λ m. slice_index (order_keys_of indexed.marks) m) k)
      which (inl (first, last)) =
          let before : w.mark.order_key < w.own.order_key = in_place w.other number w.mark w.own first last w.mark_at w.own_at in
          let less : later < at = subst (λ (z : ℕ). later < z) own_is (subst (λ (z : ℕ). z < w.own.order_key) w.order_key_is before) in
          subst (λ (s : Step). IsFrom s (renumbered (λ m. slice_index (order_keys_of indexed.marks) m) k)) (sym (step_above kind at later less))
          (subst (IsFrom (step_of_kind kind later at)) (sym (step_is w.other number later at first last other_is named_at)) (kinds later at))
      which (inr (first, last)) =
          let before : w.own.order_key < w.mark.order_key = in_place number w.other w.own w.mark first last w.own_at w.mark_at in
          let less : at < later = subst (λ (z : ℕ). at < z) w.order_key_is (subst (λ (z : ℕ). z < w.mark.order_key) own_is before) in
          subst (λ (s : Step). IsFrom s (renumbered (λ m. slice_index (order_keys_of indexed.marks) m) k)) (sym (step_below kind at later less))
          (subst (IsFrom (step_of_kind kind at later)) (sym (step_is number w.other at later first last named_at other_is)) (kinds at later))

-- ---- Partners in steps of one kind, one after the other

module _ (v : View) (number : ℕ) (P : Step → Type 0) where
  -- each step of the kind with an order key of the list is covered, or its order key is left
  abbrev pub AreCovered : FoundParts → (all rest : List ℕ) → Type 0
  AreCovered found all rest = (x : ℕ) (k : Step) → Contains all x → IsWith v.indexed.now number x k → P k → CoversIn v found k ⊎ Contains rest x

  pub one_more : (old new : FoundParts) (all rest behind : List ℕ) (order_key : ℕ) → rest ≡ order_key ∷ behind → Grows v old new → AreCovered old all rest →
      ((k : Step) → IsWith v.indexed.now number order_key k → P k → CoversIn v new k) → AreCovered new all behind
  one_more old new all rest behind order_key is grows before here x k among with_it p = which (before x k among with_it p)
    where
      which : CoversIn v old k ⊎ Contains rest x → CoversIn v new k ⊎ Contains behind x
      which (inl c) = inl (kept_covers v old new grows k c)
      which (inr h) = elim (Contains-cons_cases order_key behind x (subst (λ (xs : List ℕ). Contains xs x) is h)) [
        | inl e ↦ inl (here k (subst (λ (y : ℕ). IsWith v.indexed.now number y k) (sym e) with_it) p)
        | inr r ↦ inr r
      ]

  pub none_left : (found : FoundParts) (all rest : List ℕ) → rest ≡ [] → AreCovered found all rest →
      (x : ℕ) (k : Step) → Contains all x → IsWith v.indexed.now number x k → P k → CoversIn v found k
  none_left found all rest is before x k among with_it p = which (before x k among with_it p)
    where
      which : CoversIn v found k ⊎ Contains rest x → CoversIn v found k
      which (inl c) = c
      which (inr h) = absurd (Contains-nil x (subst (λ (xs : List ℕ). Contains xs x) is h))

  pub rest_covered : (found : FoundParts) (all rest : List ℕ) → ((x : ℕ) (k : Step) → Contains rest x → IsWith v.indexed.now number x k → P k → CoversIn v found k) → AreCovered found all rest →
      (x : ℕ) (k : Step) → Contains all x → IsWith v.indexed.now number x k → P k → CoversIn v found k
  rest_covered found all rest late before x k among with_it p = which (before x k among with_it p)
    where
      which : CoversIn v found k ⊎ Contains rest x → CoversIn v found k
      which (inl c) = c
      which (inr h) = late x k h with_it p
