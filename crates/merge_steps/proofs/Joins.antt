-- When a step of two rules, or of one, is a step of a sheet.
use Rattle.std.proofs.Common.{◌≡◌, ◌↔◌, ◌≤◌, ◌<◌, ℕ, Bool, true, List, Some, refl, subst, arith}
use Rattle.std.specs.Prelude.{slice_get}
use Rattle.css_model.specs.declared.sheet.Item.{Item}
use Rattle.css_model.specs.declared.sheet.Item.TheVariants.{Rule}
use Rattle.css_model.specs.Sheets.RuleParts.{RuleParts}
use Rattle.merge_steps.proofs.Cuts.{same_rule}
use Rattle.merge_steps.specs.StepParts.{IsCutKind, IsJoinKind, MayJoin}
use Rattle.step_laws.specs.declared.step.Step.{Step}
use Rattle.step_laws.specs.declared.step.Step.TheVariants.{CutDecl, CutSel, JoinSelUp, JoinSelDown, JoinDeclUp, JoinDeclDown, Share}
use Rattle.step_laws.specs.StepEdits.{join_selectors_up, join_selectors_down, join_decls_up, join_decls_down, share}
use Rattle.step_laws.specs.Steps.{HasStep, first_item, last_item}

-- the step's rules, with what lets them be joined
makes : (items : List Item) (k : Step) (u l : RuleParts) → IsJoinKind k → first_item k < last_item k → slice_get items (first_item k) ≡ Some (Rule u) → slice_get items (last_item k) ≡ Some (Rule l) →
    MayJoin items k u l → HasStep items k
makes items (CutDecl n i) u l kind less at at' may = absurd kind
makes items (CutSel n i) u l kind less at at' may = absurd kind
makes items (JoinSelUp x y) u l kind less at at' may = (join_selectors_up x y u l, record { upper = u; lower = l; rules = record { upper_at = at; lower_at = at'; in_order = less }; may = may; is = refl })
makes items (JoinSelDown x y) u l kind less at at' may = (join_selectors_down x y u l, record { upper = u; lower = l; rules = record { upper_at = at; lower_at = at'; in_order = less }; may = may; is = refl })
makes items (JoinDeclUp x y) u l kind less at at' may = (join_decls_up x y u l, record { upper = u; lower = l; rules = record { upper_at = at; lower_at = at'; in_order = less }; may = may; is = refl })
makes items (JoinDeclDown x y) u l kind less at at' may = (join_decls_down x y u l, record { upper = u; lower = l; rules = record { upper_at = at; lower_at = at'; in_order = less }; may = may; is = refl })
makes items (Share x y) u l kind less at at' may = (share x y u l, record { upper = u; lower = l; rules = record { upper_at = at; lower_at = at'; in_order = less }; may = may; is = refl })

may_of : (items : List Item) (k : Step) (u l : RuleParts) → IsJoinKind k → slice_get items (first_item k) ≡ Some (Rule u) → slice_get items (last_item k) ≡ Some (Rule l) → HasStep items k → MayJoin items k u l
may_of items (CutDecl n i) u l kind at at' has = absurd kind
may_of items (CutSel n i) u l kind at at' has = absurd kind
may_of items (JoinSelUp x y) u l kind at at' (e, is) =
    subst (λ (r : RuleParts). MayJoin items (JoinSelUp x y) r l) (same_rule items x is.upper u is.rules.upper_at at)
    (subst (λ (r : RuleParts). MayJoin items (JoinSelUp x y) is.upper r) (same_rule items y is.lower l is.rules.lower_at at') is.may)
may_of items (JoinSelDown x y) u l kind at at' (e, is) =
    subst (λ (r : RuleParts). MayJoin items (JoinSelDown x y) r l) (same_rule items x is.upper u is.rules.upper_at at)
    (subst (λ (r : RuleParts). MayJoin items (JoinSelDown x y) is.upper r) (same_rule items y is.lower l is.rules.lower_at at') is.may)
may_of items (JoinDeclUp x y) u l kind at at' (e, is) =
    subst (λ (r : RuleParts). MayJoin items (JoinDeclUp x y) r l) (same_rule items x is.upper u is.rules.upper_at at)
    (subst (λ (r : RuleParts). MayJoin items (JoinDeclUp x y) is.upper r) (same_rule items y is.lower l is.rules.lower_at at') is.may)
may_of items (JoinDeclDown x y) u l kind at at' (e, is) =
    subst (λ (r : RuleParts). MayJoin items (JoinDeclDown x y) r l) (same_rule items x is.upper u is.rules.upper_at at)
    (subst (λ (r : RuleParts). MayJoin items (JoinDeclDown x y) is.upper r) (same_rule items y is.lower l is.rules.lower_at at') is.may)
may_of items (Share x y) u l kind at at' (e, is) =
    subst (λ (r : RuleParts). MayJoin items (Share x y) r l) (same_rule items x is.upper u is.rules.upper_at at)
    (subst (λ (r : RuleParts). MayJoin items (Share x y) is.upper r) (same_rule items y is.lower l is.rules.lower_at at') is.may)

order_of : (items : List Item) (k : Step) → IsJoinKind k → HasStep items k → first_item k < last_item k
order_of items (CutDecl n i) kind has = absurd kind
order_of items (CutSel n i) kind has = absurd kind
order_of items (JoinSelUp x y) kind (e, is) = is.rules.in_order
order_of items (JoinSelDown x y) kind (e, is) = is.rules.in_order
order_of items (JoinDeclUp x y) kind (e, is) = is.rules.in_order
order_of items (JoinDeclDown x y) kind (e, is) = is.rules.in_order
order_of items (Share x y) kind (e, is) = is.rules.in_order

upper_of : (items : List Item) (k : Step) → IsJoinKind k → HasStep items k → (r : RuleParts) × (slice_get items (first_item k) ≡ Some (Rule r))
upper_of items (CutDecl n i) kind has = absurd kind
upper_of items (CutSel n i) kind has = absurd kind
upper_of items (JoinSelUp x y) kind (e, is) = (is.upper, is.rules.upper_at)
upper_of items (JoinSelDown x y) kind (e, is) = (is.upper, is.rules.upper_at)
upper_of items (JoinDeclUp x y) kind (e, is) = (is.upper, is.rules.upper_at)
upper_of items (JoinDeclDown x y) kind (e, is) = (is.upper, is.rules.upper_at)
upper_of items (Share x y) kind (e, is) = (is.upper, is.rules.upper_at)

lower_of : (items : List Item) (k : Step) → IsJoinKind k → HasStep items k → (r : RuleParts) × (slice_get items (last_item k) ≡ Some (Rule r))
lower_of items (CutDecl n i) kind has = absurd kind
lower_of items (CutSel n i) kind has = absurd kind
lower_of items (JoinSelUp x y) kind (e, is) = (is.lower, is.rules.lower_at)
lower_of items (JoinSelDown x y) kind (e, is) = (is.lower, is.rules.lower_at)
lower_of items (JoinDeclUp x y) kind (e, is) = (is.lower, is.rules.lower_at)
lower_of items (JoinDeclDown x y) kind (e, is) = (is.lower, is.rules.lower_at)
lower_of items (Share x y) kind (e, is) = (is.lower, is.rules.lower_at)

-- ---- As the code tests it

pub join_is : (items : List Item) (k : Step) (x y : ℕ) (u l : RuleParts) → IsJoinKind k → x ≡ first_item k → y ≡ last_item k → x < y →
    slice_get items x ≡ Some (Rule u) → slice_get items y ≡ Some (Rule l) → (b : Bool) → (b ≡ true) ↔ MayJoin items k u l → (b ≡ true) ↔ HasStep items k
join_is items k x y u l kind first last less at at' b may = (
  λ h. makes items k u l kind (subst (λ (n : ℕ). n < last_item k) first (subst (λ (n : ℕ). x < n) last less)) above below (may.0 h),
  λ has. may.1 (may_of items k u l kind above below has),
)
  where
    above : slice_get items (first_item k) ≡ Some (Rule u)
    above = subst (λ (n : ℕ). slice_get items n ≡ Some (Rule u)) first at

    below : slice_get items (last_item k) ≡ Some (Rule l)
    below = subst (λ (n : ℕ). slice_get items n ≡ Some (Rule l)) last at'

pub not_in_order : (items : List Item) (k : Step) (x y : ℕ) → IsJoinKind k → x ≡ first_item k → y ≡ last_item k → y ≤ x → HasStep items k → ⊥
not_in_order items k x y kind first last more has = let less : first_item k < last_item k = order_of items k kind has in omega (arith, first, last, more, less)

pub no_upper : (items : List Item) (k : Step) (x : ℕ) → IsJoinKind k → x ≡ first_item k → ((r : RuleParts) → slice_get items x ≡ Some (Rule r) → ⊥) → HasStep items k → ⊥
no_upper items k x kind first none has = let w : (r : RuleParts) × (slice_get items (first_item k) ≡ Some (Rule r)) = upper_of items k kind has in
    subst (λ (n : ℕ). ((r : RuleParts) → slice_get items n ≡ Some (Rule r) → ⊥)) first none w.0 w.1

pub no_lower : (items : List Item) (k : Step) (y : ℕ) → IsJoinKind k → y ≡ last_item k → ((r : RuleParts) → slice_get items y ≡ Some (Rule r) → ⊥) → HasStep items k → ⊥
no_lower items k y kind last none has = let w : (r : RuleParts) × (slice_get items (last_item k) ≡ Some (Rule r)) = lower_of items k kind has in
    subst (λ (n : ℕ). ((r : RuleParts) → slice_get items n ≡ Some (Rule r) → ⊥)) last none w.0 w.1

pub no_rule_to_cut : (items : List Item) (k : Step) (n : ℕ) → IsCutKind k → n ≡ first_item k → ((r : RuleParts) → slice_get items n ≡ Some (Rule r) → ⊥) → HasStep items k → ⊥
no_rule_to_cut items (CutDecl m i) n kind first none (e, is) = subst (λ (n : ℕ). ((r : RuleParts) → slice_get items n ≡ Some (Rule r) → ⊥)) first none is.rule is.rule_at
no_rule_to_cut items (CutSel m i) n kind first none (e, is) = subst (λ (n : ℕ). ((r : RuleParts) → slice_get items n ≡ Some (Rule r) → ⊥)) first none is.rule is.rule_at
no_rule_to_cut items (JoinSelUp x y) n kind first none has = absurd kind
no_rule_to_cut items (JoinSelDown x y) n kind first none has = absurd kind
no_rule_to_cut items (JoinDeclUp x y) n kind first none has = absurd kind
no_rule_to_cut items (JoinDeclDown x y) n kind first none has = absurd kind
no_rule_to_cut items (Share x y) n kind first none has = absurd kind
