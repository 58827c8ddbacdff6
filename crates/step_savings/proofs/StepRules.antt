-- The rules of a step of a sheet, and its edit.
use Rattle.std.proofs.Common.{◌≡◌, ◌<◌, ℕ, List, Some, length, sym, ap, ap₂, subst, ◌∙◌}
use Rattle.std.specs.Prelude.{slice_get}
use Rattle.css_model.specs.declared.sheet.Item.{Item}
use Rattle.css_model.specs.declared.sheet.Item.TheVariants.{Rule}
use Rattle.css_model.specs.Sheets.RuleParts.{RuleParts}
use Rattle.step_savings.specs.CutParts.{HasPart}
use Rattle.order_laws.specs.Edits.{Change, Edit, edited, slots_from}
use Rattle.order_laws.specs.Slots.{new_items}
use Rattle.step_laws.specs.declared.step.Step.{Step}
use Rattle.step_laws.specs.declared.step.Step.TheVariants.{CutDecl, CutSel, JoinSelUp, JoinSelDown, JoinDeclUp, JoinDeclDown, Share}
use Rattle.step_laws.specs.StepEdits.{cut_decl, cut_selector, join_selectors_up, join_selectors_down, join_decls_up, join_decls_down, share}
use Rattle.step_laws.specs.Steps.{IsStep, HasStep, edit_of, first_item, last_item}

abbrev IsRuleAt : List Item → ℕ → RuleParts → Type 0
IsRuleAt items n r = slice_get items n ≡ Some (Rule r)

same_rule : (items : List Item) (n : ℕ) (r q : RuleParts) → IsRuleAt items n r → IsRuleAt items n q → r ≡ q
same_rule items n r q a b =
    let e : slice_get items n ≡ Some (Rule r) = a in
    let f : slice_get items n ≡ Some (Rule q) = b in
    cc

pub first_rule : (items : List Item) (k : Step) → HasStep items k → (r : RuleParts) × (slice_get items (first_item k) ≡ Some (Rule r))
first_rule items (CutDecl n i) (e, is) = (is.rule, is.rule_at)
first_rule items (CutSel n i) (e, is) = (is.rule, is.rule_at)
first_rule items (JoinSelUp x y) (e, is) = (is.upper, is.rules.upper_at)
first_rule items (JoinSelDown x y) (e, is) = (is.upper, is.rules.upper_at)
first_rule items (JoinDeclUp x y) (e, is) = (is.upper, is.rules.upper_at)
first_rule items (JoinDeclDown x y) (e, is) = (is.upper, is.rules.upper_at)
first_rule items (Share x y) (e, is) = (is.upper, is.rules.upper_at)

pub last_rule : (items : List Item) (k : Step) → HasStep items k → (r : RuleParts) × (slice_get items (last_item k) ≡ Some (Rule r))
last_rule items (CutDecl n i) (e, is) = (is.rule, is.rule_at)
last_rule items (CutSel n i) (e, is) = (is.rule, is.rule_at)
last_rule items (JoinSelUp x y) (e, is) = (is.lower, is.rules.lower_at)
last_rule items (JoinSelDown x y) (e, is) = (is.lower, is.rules.lower_at)
last_rule items (JoinDeclUp x y) (e, is) = (is.lower, is.rules.lower_at)
last_rule items (JoinDeclDown x y) (e, is) = (is.lower, is.rules.lower_at)
last_rule items (Share x y) (e, is) = (is.lower, is.rules.lower_at)

pub has_part : (items : List Item) (k : Step) (r : RuleParts) → HasStep items k → slice_get items (first_item k) ≡ Some (Rule r) → HasPart k r
has_part items (CutDecl n i) r (e, is) at = subst (λ (q : RuleParts). i < length q.decls) (same_rule items n is.rule r is.rule_at at) is.part
has_part items (CutSel n i) r (e, is) at = subst (λ (q : RuleParts). i < length q.selectors) (same_rule items n is.rule r is.rule_at at) is.part
has_part items (JoinSelUp x y) r has at = tt
has_part items (JoinSelDown x y) r has at = tt
has_part items (JoinDeclUp x y) r has at = tt
has_part items (JoinDeclDown x y) r has at = tt
has_part items (Share x y) r has at = tt

pub edit_is : (items : List Item) (k : Step) (u l : RuleParts) → slice_get items (first_item k) ≡ Some (Rule u) → slice_get items (last_item k) ≡ Some (Rule l) →
    (e : Edit) → IsStep items k e → edit_of k u l ≡ e
edit_is items (CutDecl n i) u l at at' e is = ap (cut_decl n i) (same_rule items n u is.rule at is.rule_at) ∙ sym is.is
edit_is items (CutSel n i) u l at at' e is = ap (cut_selector n i) (same_rule items n u is.rule at is.rule_at) ∙ sym is.is
edit_is items (JoinSelUp x y) u l at at' e is = ap₂ (join_selectors_up x y) (same_rule items x u is.upper at is.rules.upper_at) (same_rule items y l is.lower at' is.rules.lower_at) ∙ sym is.is
edit_is items (JoinSelDown x y) u l at at' e is = ap₂ (join_selectors_down x y) (same_rule items x u is.upper at is.rules.upper_at) (same_rule items y l is.lower at' is.rules.lower_at) ∙ sym is.is
edit_is items (JoinDeclUp x y) u l at at' e is = ap₂ (join_decls_up x y) (same_rule items x u is.upper at is.rules.upper_at) (same_rule items y l is.lower at' is.rules.lower_at) ∙ sym is.is
edit_is items (JoinDeclDown x y) u l at at' e is = ap₂ (join_decls_down x y) (same_rule items x u is.upper at is.rules.upper_at) (same_rule items y l is.lower at' is.rules.lower_at) ∙ sym is.is
edit_is items (Share x y) u l at at' e is = ap₂ (share x y) (same_rule items x u is.upper at is.rules.upper_at) (same_rule items y l is.lower at' is.rules.lower_at) ∙ sym is.is

pub edited_is : (items : List Item) (k : Step) (u l : RuleParts) → slice_get items (first_item k) ≡ Some (Rule u) → slice_get items (last_item k) ≡ Some (Rule l) →
    (changes : List Change) → changes ≡ (edit_of k u l).changes → (e : Edit) → IsStep items k e → new_items (slots_from 0 changes items) ≡ edited e items
edited_is items k u l at at' changes are e is =
    ap (λ (cs : List Change). new_items (slots_from 0 cs items)) are ∙ ap (λ (d : Edit). edited d items) (edit_is items k u l at at' e is)
