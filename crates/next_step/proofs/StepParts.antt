-- Steps by their kind and their two numbers.
use Rattle.std.proofs.Common.{◌≡◌, ◌<◌, ◌^◌, ℕ, zero, suc, List, [], ◌∷◌, Some, None, length, refl, sym, ap, ap₂, subst, ◌∙◌}
use Rattle.std.specs.Prelude.{slice_get, slice_index}
use Rattle.std.proofs.lemmas.Option.{slice_get_within}
use Rattle.cascade_laws.proofs.ForCallers.{some-same}
use Rattle.css_model.specs.declared.sheet.Item.{Item}
use Rattle.css_model.specs.declared.sheet.Item.TheVariants.{Rule}
use Rattle.css_model.specs.Sheets.RuleParts.{RuleParts}
use Rattle.pending_laws.specs.Priorities.{named}
use Rattle.step_kinds.specs.declared.kind.Kind.{Kind}
use Rattle.step_kinds.specs.declared.kind.Kind.TheVariants.{DeclCut, SelCut, SelJoinUp, SelJoinDown, DeclJoinUp, DeclJoinDown, Sharing}
use Rattle.step_kinds.specs.StepsByKind.{kind_of, second_of, step_of_kind}
use Rattle.step_kinds.proofs.ForCallers.{made_of, kind_is, first_is, second_is}
use Rattle.indexed_sheet.specs.declared.marks.Mark.{Mark}
use Rattle.plan_laws.specs.Cover.{Priority}
use Rattle.step_laws.specs.declared.step.Step.{Step}
use Rattle.step_laws.specs.Steps.{HasStep, first_item, last_item}
use Rattle.step_savings.proofs.ForCallers.{first_rule, last_rule}
use Rattle.indexed_sheet.specs.MarkList.{order_keys_of}
use Rattle.next_step.specs.Seconds.{HasItem, HasSecond, second_name}
use Rattle.plan_laws.specs.Barrier.Hindering.{priority_of}
use Rattle.plan_laws.specs.Barrier.Renumbering.{renumbered}

-- ---- Names in place of numbers

pub renamed : (names : List ℕ) (kind : Kind) (x y : ℕ) → renumbered (λ m. slice_index names m) (step_of_kind kind x y) ≡ step_of_kind kind (slice_index names x) (second_name kind names y)
renamed names DeclCut x y = refl
renamed names SelCut x y = refl
renamed names SelJoinUp x y = refl
renamed names SelJoinDown x y = refl
renamed names DeclJoinUp x y = refl
renamed names DeclJoinDown x y = refl
renamed names Sharing x y = refl

pub priority_is : (names : List ℕ) (k : Step) (kind : Kind) (x y first second n : ℕ) → k ≡ step_of_kind kind x y → slice_index names x ≡ first → second_name kind names y ≡ second →
    priority_of n (step_of_kind kind first second) ≡ named names n k
priority_is names k kind x y first second n is one two =
    ap (priority_of n) (ap₂ (step_of_kind kind) (sym one) (sym two) ∙ sym (renamed names kind x y) ∙ ap (renumbered (λ m. slice_index names m)) (sym is))

-- what the same priority says of two steps by names
same_step : (names : List ℕ) (k : Step) (kind : Kind) (first second : ℕ) → renumbered (λ m. slice_index names m) k ≡ step_of_kind kind first second →
    (kind_of k ≡ kind) × (slice_index names (first_item k) ≡ first) × (second_name kind names (second_of k) ≡ second)
same_step names k kind first second e = (kinds, sym (first_is (kind_of k) _ _) ∙ ap first_item f ∙ first_is kind first second, seconds)
  where
    f : step_of_kind (kind_of k) (slice_index names (first_item k)) (second_name (kind_of k) names (second_of k)) ≡ step_of_kind kind first second
    f = sym (renamed names (kind_of k) (first_item k) (second_of k)) ∙ ap (renumbered (λ m. slice_index names m)) (sym (made_of k)) ∙ e

    kinds : kind_of k ≡ kind
    kinds = sym (kind_is (kind_of k) _ _) ∙ ap kind_of f ∙ kind_is kind first second

    seconds : second_name kind names (second_of k) ≡ second
    seconds = ap (λ (z : Kind). second_name z names (second_of k)) (sym kinds) ∙ sym (second_is (kind_of k) _ _) ∙ ap second_of f ∙ second_is kind first second

pub same_priority : (names : List ℕ) (m n : ℕ) (k : Step) (kind : Kind) (first second : ℕ) → named names m k ≡ priority_of n (step_of_kind kind first second) →
    (m ≡ n) × (kind_of k ≡ kind) × (slice_index names (first_item k) ≡ first) × (second_name kind names (second_of k) ≡ second)
same_priority names m n k kind first second e =
    let w = same_step names k kind first second (ap (λ (t : Priority). t.step) e) in
    (ap (λ (t : Priority). t.saving) e, w.0, w.1, w.2)

-- ---- Items of a step are there

pub order_key_at : (marks : List Mark) (n : ℕ) (m : Mark) → slice_get marks n ≡ Some m → slice_index (order_keys_of marks) n ≡ m.order_key
order_key_at [] n m at = absurd (let e : None ≡ Some m = at in cc)
order_key_at (x ∷ marks) zero m at = ap (λ (y : Mark). y.order_key) (some-same at)
order_key_at (x ∷ marks) (suc n) m at = order_key_at marks n m at

pub first_there : (items : List Item) (k : Step) (kind : Kind) (x y : ℕ) → HasStep items k → k ≡ step_of_kind kind x y → x < length items
first_there items k kind x y has is =
    let r : (r : RuleParts) × (slice_get items (first_item k) ≡ Some (Rule r)) = first_rule items k has in
    subst (λ (n : ℕ). n < length items) (ap first_item is ∙ first_is kind x y) (slice_get_within items (first_item k) (Rule r.0) r.1)

pub last_there : (items : List Item) (k : Step) → HasStep items k → last_item k < length items
last_there items k has =
    let r : (r : RuleParts) × (slice_get items (last_item k) ≡ Some (Rule r)) = last_rule items k has in
    slice_get_within items (last_item k) (Rule r.0) r.1

pub second_there : (items : List Item) (k : Step) (kind : Kind) (x y : ℕ) → HasStep items k → k ≡ step_of_kind kind x y → y < 2 ^ 32 → HasSecond kind y (length items)
second_there items k DeclCut x y has is small = small
second_there items k SelCut x y has is small = small
second_there items k SelJoinUp x y has is small = subst (λ (n : ℕ). n < length items) (ap last_item is) (last_there items k has)
second_there items k SelJoinDown x y has is small = subst (λ (n : ℕ). n < length items) (ap last_item is) (last_there items k has)
second_there items k DeclJoinUp x y has is small = subst (λ (n : ℕ). n < length items) (ap last_item is) (last_there items k has)
second_there items k DeclJoinDown x y has is small = subst (λ (n : ℕ). n < length items) (ap last_item is) (last_there items k has)
second_there items k Sharing x y has is small = subst (λ (n : ℕ). n < length items) (ap last_item is) (last_there items k has)

pub item_there : (items : List Item) (k : Step) (kind : Kind) (x y : ℕ) → HasStep items k → k ≡ step_of_kind kind x y → HasItem kind y (length items)
item_there items k DeclCut x y has is = tt
item_there items k SelCut x y has is = tt
item_there items k SelJoinUp x y has is = subst (λ (n : ℕ). n < length items) (ap last_item is) (last_there items k has)
item_there items k SelJoinDown x y has is = subst (λ (n : ℕ). n < length items) (ap last_item is) (last_there items k has)
item_there items k DeclJoinUp x y has is = subst (λ (n : ℕ). n < length items) (ap last_item is) (last_there items k has)
item_there items k DeclJoinDown x y has is = subst (λ (n : ℕ). n < length items) (ap last_item is) (last_there items k has)
item_there items k Sharing x y has is = subst (λ (n : ℕ). n < length items) (ap last_item is) (last_there items k has)
