-- Steps by declarations that come too late, by the order keys of their items.
use Rattle.std.proofs.Common.{◌≡◌, ◌⊎◌, ℕ, ◌<◌, ◌≤◌, List, Option, Some, refl, sym, subst, inl, inr, ◌∙◌, arith}
use Rattle.std.specs.Prelude.{IfSome, slice_index}
use Rattle.step_kinds.specs.declared.kind.Kind.TheVariants.{DeclJoinUp}
use Rattle.step_kinds.specs.StepsByKind.{kind_of, step_of_kind}
use Rattle.order_laws.specs.Edits.{Edit}
use Rattle.indexed_sheet.specs.IndexedParts.{IndexedParts}
use Rattle.indexed_sheet.specs.declared.marks.Mark.{Mark}
use Rattle.indexed_sheet.specs.MarkList.{AreMarks, order_keys_of}
use Rattle.step_laws.specs.declared.step.Step.{Step}
use Rattle.step_laws.specs.declared.step.Step.TheVariants.{CutDecl, CutSel, JoinSelUp, JoinSelDown, JoinDeclUp, JoinDeclDown, Share}
use Rattle.step_laws.specs.Sizes.{Saves}
use Rattle.step_laws.specs.Steps.{IsStep, first_item, last_item}
use Rattle.next_step.specs.Kinds.{IsByDecls}
use Rattle.next_step.specs.Late.{ByDeclsSaveAtMost, IsFrom, IsLate}
use Rattle.next_step.specs.LaterOrderKeys.{AreLateFrom}
use Rattle.next_step.specs.Looking.{FoundParts, IsWith}
use Rattle.next_step.specs.Once.{DeclsStandOnce}
use Rattle.next_step.specs.Viewed.{CoversIn, IsFocus}
use Rattle.next_step.specs.declared.view.Focus.{Focus}
use Rattle.next_step.specs.declared.view.View.{View}
use Rattle.next_step.proofs.Later.{late_covers}
use Rattle.next_step.proofs.LaterOrderKeys.{late_with}
use Rattle.next_step.proofs.Owned.{order_of}
use Rattle.next_step.proofs.StepParts.{order_key_at}
use Rattle.next_step.proofs.Telling.{in_order, order_key_index}

-- a join up by declarations is the first of these kinds
pub up_is_first : (k : Step) → IsByDecls k → (x y : ℕ) → IsFrom (step_of_kind DeclJoinUp x y) (step_of_kind (kind_of k) x y)
up_is_first (CutDecl n i) by x y = absurd by
up_is_first (CutSel n i) by x y = absurd by
up_is_first (JoinSelUp a b) by x y = absurd by
up_is_first (JoinSelDown a b) by x y = absurd by
up_is_first (JoinDeclUp a b) by x y = inl refl
up_is_first (JoinDeclDown a b) by x y = inr refl
up_is_first (Share a b) by x y = inr refl

module _ (source : List ℕ) (indexed : IndexedParts) (are : AreMarks indexed.marks indexed.next) (found : FoundParts) (at number : ℕ) (named_at : slice_index (order_keys_of indexed.marks) number ≡ at) (limit order_key : ℕ)
    (late : AreLateFrom found.others DeclJoinUp at order_key limit) where
  -- with an item above it, if each of its declarations stands in it once
  pub above_late : order_key < at → DeclsStandOnce indexed.items number → ((upper : ℕ) → ByDeclsSaveAtMost source indexed.items upper number limit) →
      (x : ℕ) (k : Step) → order_key ≤ x → x < at → IsWith indexed number x k → IsByDecls k → IsLate source indexed found k
  above_late less once most x k least x_less w by =
      late_with source indexed indexed.next are found DeclJoinUp at order_key limit number named_at late x k least (inl (less, x_less)) w (up_is_first k by) few
    where
      own_is : w.own.order_key ≡ at
      own_is = sym (order_key_at indexed.marks number w.own w.own_at) ∙ named_at

      few : (e : Edit) (n : ℕ) → IsStep indexed.items k e → Saves source indexed.items e n → n ≤ limit
      few e n is saves = which w.items_are
        where
          which : ((first_item k ≡ w.other) × (last_item k ≡ number)) ⊎ ((first_item k ≡ number) × (last_item k ≡ w.other)) → n ≤ limit
          which (inl (first, last)) = most w.other once k e n by first last is saves
          which (inr (first, last)) =
              let order : first_item k < last_item k = order_of indexed.items k e w.of_two is in
              let before : w.own.order_key < w.mark.order_key = in_order (λ (m n : Mark). m.order_key < n.order_key) indexed.marks are.ascend number w.other w.own w.mark (let l : number < w.other = omega (arith, order, first, last) in l) w.own_at w.mark_at in
              let same : w.mark.order_key ≡ x = w.order_key_is in
              absurd (let o : w.own.order_key ≡ at = own_is in omega (arith, before, same, o, x_less))

  -- with an item below it, if each declaration of each rule stands in it once
  pub below_late : at < order_key → ((n : ℕ) → DeclsStandOnce indexed.items n) → ((lower : ℕ) → ByDeclsSaveAtMost source indexed.items number lower limit) →
      (x : ℕ) (k : Step) → order_key ≤ x → IsWith indexed number x k → IsByDecls k → IsLate source indexed found k
  below_late less once most x k least w by =
      late_with source indexed indexed.next are found DeclJoinUp at order_key limit number named_at late x k least (inr (less, further)) w (up_is_first k by) few
    where
      further : at < x
      further = omega (arith, less, least)

      own_is : w.own.order_key ≡ at
      own_is = sym (order_key_at indexed.marks number w.own w.own_at) ∙ named_at

      few : (e : Edit) (n : ℕ) → IsStep indexed.items k e → Saves source indexed.items e n → n ≤ limit
      few e n is saves = which w.items_are
        where
          which : ((first_item k ≡ w.other) × (last_item k ≡ number)) ⊎ ((first_item k ≡ number) × (last_item k ≡ w.other)) → n ≤ limit
          which (inr (first, last)) = most w.other (once w.other) k e n by first last is saves
          which (inl (first, last)) =
              let order : first_item k < last_item k = order_of indexed.items k e w.of_two is in
              let before : w.mark.order_key < w.own.order_key = in_order (λ (m n : Mark). m.order_key < n.order_key) indexed.marks are.ascend w.other number w.mark w.own (let l : w.other < number = omega (arith, order, first, last) in l) w.mark_at w.own_at in
              let same : w.mark.order_key ≡ x = w.order_key_is in
              absurd (let o : w.own.order_key ≡ at = own_is in omega (arith, before, same, o, further))

-- ---- As the code tests it

-- what is told of a limit holds of it
of_limit : (most : Option ℕ) (P : ℕ → Type 0) → IfSome most P → (limit : ℕ) → most ≡ Some limit → P limit
of_limit most P holds limit is = subst (λ (o : Option ℕ). IfSome o P) is holds

module _ (v : View) (o : Focus) (is_focus : IsFocus v o) (are : AreMarks v.indexed.now.marks v.indexed.now.next) (found : FoundParts) (most : Option ℕ) where
  named_at : slice_index (order_keys_of v.indexed.now.marks) o.number ≡ o.order_key
  named_at = order_key_index v.indexed.now.marks o.number o.order_key is_focus.order_key

  -- of the order keys that are left this one is the least
  -- all that is left above an item comes too late
  pub rest_above : (order_key : ℕ) (Left : ℕ → Type 0) → Left order_key → ((x : ℕ) → Left x → order_key ≤ x) → ((x : ℕ) → Left x → x < o.order_key) → DeclsStandOnce v.indexed.now.items o.number →
      IfSome most (λ limit. (upper : ℕ) → ByDeclsSaveAtMost v.source.now v.indexed.now.items upper o.number limit) → ((limit : ℕ) × (most ≡ Some limit) × AreLateFrom found.others DeclJoinUp o.order_key order_key limit) →
      (x : ℕ) (k : Step) → Left x → IsWith v.indexed.now o.number x k → IsByDecls k → CoversIn v found k
  rest_above order_key Left here least above once bound (limit, is_limit, late) x k among w by =
      late_covers v found k
      (above_late v.source.now v.indexed.now are found o.order_key o.number named_at limit order_key late (above order_key here) once (of_limit most (λ limit. (upper : ℕ) → ByDeclsSaveAtMost v.source.now v.indexed.now.items upper o.number limit) bound limit is_limit) x k (least x among) (above x among) w by)

  -- and so below it
  pub rest_below : (order_key : ℕ) (Left : ℕ → Type 0) → Left order_key → ((x : ℕ) → Left x → order_key ≤ x) → ((x : ℕ) → Left x → o.order_key < x) → ((n : ℕ) → DeclsStandOnce v.indexed.now.items n) →
      IfSome most (λ limit. (lower : ℕ) → ByDeclsSaveAtMost v.source.now v.indexed.now.items o.number lower limit) → ((limit : ℕ) × (most ≡ Some limit) × AreLateFrom found.others DeclJoinUp o.order_key order_key limit) →
      (x : ℕ) (k : Step) → Left x → IsWith v.indexed.now o.number x k → IsByDecls k → CoversIn v found k
  rest_below order_key Left here least below once bound (limit, is_limit, late) x k among w by =
      late_covers v found k
      (below_late v.source.now v.indexed.now are found o.order_key o.number named_at limit order_key late (below order_key here) once (of_limit most (λ limit. (lower : ℕ) → ByDeclsSaveAtMost v.source.now v.indexed.now.items o.number lower limit) bound limit is_limit) x k (least x among) w by)
