-- The items of a step, and their names.
use Rattle.std.proofs.Common.{◌≡◌, ◌≢◌, ℕ, ◌<◌, List, length, Some, refl, sym, ap, ap₂, subst, arith}
use Rattle.std.specs.Prelude.{nat_lt, slice_get, slice_index}
use Rattle.std.proofs.lemmas.Bool.{cond_both}
use Rattle.std.proofs.lemmas.Option.{get_or_from_slice_get, slice_get-get_or, slice_get_within}
use Rattle.css_model.specs.declared.sheet.Item.{Item}
use Rattle.css_model.specs.declared.sheet.Item.TheVariants.{Rule}
use Rattle.pending_laws.specs.ItemIds.{owner}
use Rattle.pending_laws.specs.Priorities.{named}
use Rattle.order_laws.specs.Edits.{Edit}
use Rattle.step_laws.specs.declared.step.Step.{Step}
use Rattle.step_laws.specs.declared.step.Step.TheVariants.{CutDecl, CutSel, JoinSelUp, JoinSelDown, JoinDeclUp, JoinDeclDown, Share}
use Rattle.step_laws.specs.Steps.{IsStep, first_item, last_item}
use Rattle.plan_laws.specs.Barrier.Hindering.{priority_of}
use Rattle.plan_laws.specs.Barrier.Renumbering.{Leaves, new_number, renumbered, IsOfOthers}

-- ---- The items of a step

apart : (x n : ℕ) → x ≢ n → n ≢ x
apart x n differ same = differ (sym same)

one : (x n : ℕ) → x ≢ n → (n ≢ x) × (n ≢ x)
one x n differ = (apart x n differ, apart x n differ)

two : (x y n : ℕ) → (x ≢ n) × ((y ≢ n) × Unit {0}) → (n ≢ x) × (n ≢ y)
two x y n differ = (apart x n differ.0, apart y n differ.1.0)

pub within : (items : List Item) (k : Step) (e : Edit) → IsStep items k e → (first_item k < length items) × (last_item k < length items)
within items (CutDecl n i) e c = let h = slice_get_within items n (Rule c.rule) c.rule_at in (h, h)
within items (CutSel n i) e c = let h = slice_get_within items n (Rule c.rule) c.rule_at in (h, h)
within items (JoinSelUp x y) e j = (slice_get_within items x (Rule j.upper) j.rules.upper_at, slice_get_within items y (Rule j.lower) j.rules.lower_at)
within items (JoinSelDown x y) e j = (slice_get_within items x (Rule j.upper) j.rules.upper_at, slice_get_within items y (Rule j.lower) j.rules.lower_at)
within items (JoinDeclUp x y) e j = (slice_get_within items x (Rule j.upper) j.rules.upper_at, slice_get_within items y (Rule j.lower) j.rules.lower_at)
within items (JoinDeclDown x y) e j = (slice_get_within items x (Rule j.upper) j.rules.upper_at, slice_get_within items y (Rule j.lower) j.rules.lower_at)
within items (Share x y) e j = (slice_get_within items x (Rule j.upper) j.rules.upper_at, slice_get_within items y (Rule j.lower) j.rules.lower_at)

-- what it leaves is none of them
pub left_apart : (items : List Item) (k : Step) (e : Edit) (n : ℕ) → IsStep items k e → Leaves e n → (n ≢ first_item k) × (n ≢ last_item k)
left_apart items (CutDecl x i) e n c leaves = one x n (subst (λ (d : Edit). Leaves d n) c.is leaves).0
left_apart items (CutSel x i) e n c leaves = one x n (subst (λ (d : Edit). Leaves d n) c.is leaves).0
left_apart items (JoinSelUp x y) e n j leaves = two x y n (subst (λ (d : Edit). Leaves d n) j.is leaves)
left_apart items (JoinSelDown x y) e n j leaves = two x y n (subst (λ (d : Edit). Leaves d n) j.is leaves)
left_apart items (JoinDeclUp x y) e n j leaves = two x y n (subst (λ (d : Edit). Leaves d n) j.is leaves)
left_apart items (JoinDeclDown x y) e n j leaves = two x y n (subst (λ (d : Edit). Leaves d n) j.is leaves)
left_apart items (Share x y) e n j leaves = two x y n (subst (λ (d : Edit). Leaves d n) j.is leaves)

-- its owner is one of them
pub owner_within : (items : List Item) (item_ids : List ℕ) (k : Step) (e : Edit) → IsStep items k e → owner item_ids k < length items
owner_within items item_ids k e is =
    let w : (first_item k < length items) × (last_item k < length items) = within items k e is in
    cond_both (nat_lt (slice_index item_ids (first_item k)) (slice_index item_ids (last_item k))) (last_item k) (first_item k) (λ n. n < length items) (λ _. w.1) (λ _. w.0)

pub new_first : (f : ℕ → ℕ) (k : Step) → first_item (renumbered f k) ≡ f (first_item k)
new_first f (CutDecl n i) = refl
new_first f (CutSel n i) = refl
new_first f (JoinSelUp x y) = refl
new_first f (JoinSelDown x y) = refl
new_first f (JoinDeclUp x y) = refl
new_first f (JoinDeclDown x y) = refl
new_first f (Share x y) = refl

pub new_last : (f : ℕ → ℕ) (k : Step) → last_item (renumbered f k) ≡ f (last_item k)
new_last f (CutDecl n i) = refl
new_last f (CutSel n i) = refl
new_last f (JoinSelUp x y) = refl
new_last f (JoinSelDown x y) = refl
new_last f (JoinDeclUp x y) = refl
new_last f (JoinDeclDown x y) = refl
new_last f (Share x y) = refl

-- ---- Their names

-- one numbering after the other
again : (f g h : ℕ → ℕ) (k : Step) → g (f (first_item k)) ≡ h (first_item k) → g (f (last_item k)) ≡ h (last_item k) → renumbered g (renumbered f k) ≡ renumbered h k
again f g h (CutDecl n i) first last = ap (λ m. CutDecl m i) first
again f g h (CutSel n i) first last = ap (λ m. CutSel m i) first
again f g h (JoinSelUp x y) first last = ap₂ (λ m n. JoinSelUp m n) first last
again f g h (JoinSelDown x y) first last = ap₂ (λ m n. JoinSelDown m n) first last
again f g h (JoinDeclUp x y) first last = ap₂ (λ m n. JoinDeclUp m n) first last
again f g h (JoinDeclDown x y) first last = ap₂ (λ m n. JoinDeclDown m n) first last
again f g h (Share x y) first last = ap₂ (λ m n. Share m n) first last

-- a step of items that an edit leaves is named alike behind it
pub named_on : (items : List Item) (d : Edit) (names names' : List ℕ) → length names ≡ length items → ((n b : ℕ) → Leaves d n → slice_get names n ≡ Some b → slice_get names' (new_number d items n) ≡ Some b) →
    (k : Step) (e : Edit) → IsStep items k e → IsOfOthers d k → (n : ℕ) → named names' n (renumbered (new_number d items) k) ≡ named names n k
named_on items d names names' beside kept k e is others n =
    let w : (first_item k < length items) × (last_item k < length items) = within items k e is in
    ap (priority_of n) (again (new_number d items) (λ m. slice_index names' m) (λ m. slice_index names m) k (same (first_item k) others.0 w.0) (same (last_item k) others.1 w.1))
  where
    same : (m : ℕ) → Leaves d m → m < length items → slice_index names' (new_number d items m) ≡ slice_index names m
    same m leaves less =
        get_or_from_slice_get names' (new_number d items m) (slice_index names m) 0 (kept m (slice_index names m) leaves (slice_get-get_or names m 0 (omega (arith, beside, less))))
