-- Item ids behind an edit.
use Rattle.std.proofs.Common.{◌≡◌, ◌≢◌, ◌⊎◌, ℕ, ◌<◌, ◌≤◌, Bool, true, false, cond, List, length, Some, get_or, refl, sym, ap, ap₂, ◌∙◌, subst, inl, inr, arith}
use Rattle.std.specs.Prelude.{nat_lt, slice_get, slice_index}
use Rattle.std.specs.List.{AllPairs}
use Rattle.std.proofs.lemmas.Bool.{cond_both, ltb-true, ltb-false}
use Rattle.std.proofs.lemmas.Option.{get_or_from_slice_get, slice_get-get_or, slice_get_within}
use Rattle.css_model.specs.declared.sheet.Item.{Item}
use Rattle.css_model.specs.declared.sheet.Item.TheVariants.{Rule}
use Rattle.order_laws.specs.Edits.{Edit, edited}
use Rattle.step_laws.specs.declared.step.Step.{Step}
use Rattle.step_laws.specs.declared.step.Step.TheVariants.{CutDecl, CutSel, JoinSelUp, JoinSelDown, JoinDeclUp, JoinDeclDown, Share}
use Rattle.step_laws.specs.Steps.{IsStep, first_item, last_item}
use Rattle.plan_laws.specs.Barrier.Renumbering.{Leaves, new_number, renumbered, IsOfOthers}
use Rattle.plan_laws.specs.Barrier.SideBySide.{HasCome}
use Rattle.pending_laws.specs.ItemIds.{AreItemIds, AreCreatedBehind, later_created, owner}

-- ---- The items of a step

pub within : (items : List Item) (k : Step) (e : Edit) → IsStep items k e → (first_item k < length items) × (last_item k < length items)
within items (CutDecl n i) e c = let h = slice_get_within items n (Rule c.rule) c.rule_at in (h, h)
within items (CutSel n i) e c = let h = slice_get_within items n (Rule c.rule) c.rule_at in (h, h)
within items (JoinSelUp x y) e j = (slice_get_within items x (Rule j.upper) j.rules.upper_at, slice_get_within items y (Rule j.lower) j.rules.lower_at)
within items (JoinSelDown x y) e j = (slice_get_within items x (Rule j.upper) j.rules.upper_at, slice_get_within items y (Rule j.lower) j.rules.lower_at)
within items (JoinDeclUp x y) e j = (slice_get_within items x (Rule j.upper) j.rules.upper_at, slice_get_within items y (Rule j.lower) j.rules.lower_at)
within items (JoinDeclDown x y) e j = (slice_get_within items x (Rule j.upper) j.rules.upper_at, slice_get_within items y (Rule j.lower) j.rules.lower_at)
within items (Share x y) e j = (slice_get_within items x (Rule j.upper) j.rules.upper_at, slice_get_within items y (Rule j.lower) j.rules.lower_at)

-- with other numbers a step is owned by the later one of those
owner_renumbered : (f : ℕ → ℕ) (item_ids : List ℕ) (k : Step) → owner item_ids (renumbered f k) ≡ later_created item_ids (f (first_item k)) (f (last_item k))
owner_renumbered f item_ids (CutDecl n i) = refl
owner_renumbered f item_ids (CutSel n i) = refl
owner_renumbered f item_ids (JoinSelUp x y) = refl
owner_renumbered f item_ids (JoinSelDown x y) = refl
owner_renumbered f item_ids (JoinDeclUp x y) = refl
owner_renumbered f item_ids (JoinDeclDown x y) = refl
owner_renumbered f item_ids (Share x y) = refl

-- ---- Item ids behind an edit

module _ (items : List Item) (d : Edit) (item_ids item_ids' : List ℕ) (next : ℕ) (old : AreItemIds items item_ids next) (behind : AreCreatedBehind items d item_ids item_ids' next) where
  same_item_id : (n : ℕ) → Leaves d n → n < length items → slice_index item_ids' (new_number d items n) ≡ slice_index item_ids n
  same_item_id n leaves less =
      get_or_from_slice_get item_ids' (new_number d items n) (slice_index item_ids n) 0
      (behind.kept n (slice_index item_ids n) leaves (slice_get-get_or item_ids n 0 (let e = old.beside in omega (arith, e, less))))

  later_stays : (x y : ℕ) → Leaves d x → Leaves d y → x < length items → y < length items → later_created item_ids' (new_number d items x) (new_number d items y) ≡ new_number d items (later_created item_ids x y)
  later_stays x y first last less less' =
      ap₂ (λ (b c : ℕ). cond (nat_lt b c) (new_number d items y) (new_number d items x)) (same_item_id x first less) (same_item_id y last less')
      ∙ of_cond (nat_lt (slice_index item_ids x) (slice_index item_ids y))
    where
      of_cond : (b : Bool) → cond b (new_number d items y) (new_number d items x) ≡ new_number d items (cond b y x)
      of_cond true = refl
      of_cond false = refl

  pub owner_stays : (k : Step) (e : Edit) → IsStep items k e → IsOfOthers d k → owner item_ids' (renumbered (new_number d items) k) ≡ new_number d items (owner item_ids k)
  owner_stays k e is others =
      let w : (first_item k < length items) × (last_item k < length items) = within items k e is in
      owner_renumbered (new_number d items) item_ids' k ∙ later_stays (first_item k) (last_item k) others.0 others.1 w.0 w.1

-- of two items none was created later than the later one
latest : (item_ids : List ℕ) (x y : ℕ) → (slice_index item_ids x ≤ slice_index item_ids (later_created item_ids x y)) × (slice_index item_ids y ≤ slice_index item_ids (later_created item_ids x y))
latest item_ids x y =
    cond_both (nat_lt (slice_index item_ids x) (slice_index item_ids y)) y x (λ n. (slice_index item_ids x ≤ slice_index item_ids n) × (slice_index item_ids y ≤ slice_index item_ids n))
    (λ less. let h : slice_index item_ids x < slice_index item_ids y = ltb-true (slice_index item_ids x) (slice_index item_ids y) less in (omega (arith, h), omega arith))
    (λ more. let h : slice_index item_ids y ≤ slice_index item_ids x = ltb-false (slice_index item_ids x) (slice_index item_ids y) more in (omega arith, h))

-- it is one of the two
pub later_is_one : (item_ids : List ℕ) (x y : ℕ) (P : ℕ → Type 0) → P x → P y → P (later_created item_ids x y)
later_is_one item_ids x y P first last = cond_both (nat_lt (slice_index item_ids x) (slice_index item_ids y)) y x P (λ _. last) (λ _. first)

-- an item that was created before has come
pub old_has_come : (items : List Item) (d : Edit) (item_ids item_ids' : List ℕ) (next : ℕ) → AreCreatedBehind items d item_ids item_ids' next → (m : ℕ) → m < length (edited d items) → slice_index item_ids' m < next → HasCome d items m
old_has_come items d item_ids item_ids' next behind m less past = which (behind.created m (slice_index item_ids' m) (slice_get-get_or item_ids' m 0 (let e = behind.beside in omega (arith, e, less))))
  where
    which : (next ≤ slice_index item_ids' m) ⊎ HasCome d items m → HasCome d items m
    which (inl later) = absurd (omega (arith, later, past))
    which (inr come) = come

pub old_owners_have_come : (items : List Item) (d : Edit) (item_ids item_ids' : List ℕ) (next : ℕ) → AreCreatedBehind items d item_ids item_ids' next →
    (k' : Step) (e' : Edit) → IsStep (edited d items) k' e' → slice_index item_ids' (owner item_ids' k') < next → HasCome d items (first_item k') × HasCome d items (last_item k')
old_owners_have_come items d item_ids item_ids' next behind k' e' is past =
    let w : (first_item k' < length (edited d items)) × (last_item k' < length (edited d items)) = within (edited d items) k' e' is in
    let l : (slice_index item_ids' (first_item k') ≤ slice_index item_ids' (owner item_ids' k')) × (slice_index item_ids' (last_item k') ≤ slice_index item_ids' (owner item_ids' k')) = latest item_ids' (first_item k') (last_item k') in
    (old_has_come items d item_ids item_ids' next behind (first_item k') w.0 (omega (arith, l.0, past)), old_has_come items d item_ids item_ids' next behind (last_item k') w.1 (omega (arith, l.1, past)))

-- ---- Item ids tell items apart

-- of item ids that differ, the same one stands at the same number
one_number : (item_ids : List ℕ) → AllPairs (λ b c. b ≢ c) item_ids → (m n b : ℕ) → slice_get item_ids m ≡ Some b → slice_get item_ids n ≡ Some b → m ≡ n
one_number item_ids differ m n b at at' =
    let here : get_or item_ids m 0 ≡ b = get_or_from_slice_get item_ids m b 0 at in
    let there : get_or item_ids n 0 ≡ b = get_or_from_slice_get item_ids n b 0 at' in
    let not_before : m < n → ⊥ = (λ less. differ m n 0 less (slice_get_within item_ids n b at') (here ∙ sym there)) in
    let not_behind : n < m → ⊥ = (λ less. differ n m 0 less (slice_get_within item_ids m b at) (there ∙ sym here)) in
    omega (arith, not_before, not_behind)

pub item_ids_tell : (items : List Item) (d : Edit) (item_ids item_ids' : List ℕ) (next : ℕ) → AreItemIds items item_ids next → AreCreatedBehind items d item_ids item_ids' next →
    (m n b : ℕ) → slice_get item_ids n ≡ Some b → slice_get item_ids' m ≡ Some b → Leaves d n × (new_number d items n ≡ m)
item_ids_tell items d item_ids item_ids' next old behind m n b at at' = which (behind.created m b at')
  where
    past : b < next
    past = subst (λ (c : ℕ). c < next) (get_or_from_slice_get item_ids n b 0 at) (old.past n 0 (slice_get_within item_ids n b at))

    which : (next ≤ b) ⊎ HasCome d items m → Leaves d n × (new_number d items n ≡ m)
    which (inl later) = absurd (omega (arith, later, past))
    which (inr (k, leaves, less, is)) =
        let before : slice_get item_ids k ≡ Some (get_or item_ids k 0) = slice_get-get_or item_ids k 0 (let e = old.beside in omega (arith, e, less)) in
        let after : slice_get item_ids' m ≡ Some (get_or item_ids k 0) = subst (λ (i : ℕ). slice_get item_ids' i ≡ Some (get_or item_ids k 0)) is (behind.kept k (get_or item_ids k 0) leaves before) in
        let same : k ≡ n = one_number item_ids old.differ k n b (before ∙ sym after ∙ at') at in
        (subst (Leaves d) same leaves, ap (new_number d items) (sym same) ∙ is)
