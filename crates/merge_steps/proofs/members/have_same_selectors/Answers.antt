use Rattle.std.proofs.Common.{◌≡◌, List, ap, ap₂, ◌∙◌}
use Rattle.std.proofs.lemmas.Bool.{false≢true}
use Rattle.std.proofs.lemmas.Result.{IfOk-weaker}
use Rattle.std.specs.List.{list_all}
use Rattle.css_model.specs.declared.sheet.SelItem.{SelItem}
use Rattle.css_model.specs.Sheets.RuleParts.{RuleParts}
use Rattle.merge_steps.proofs.Among.{among, not_same, same_by_lower}
use Rattle.merge_steps.proofs.members.have_same_selectors.Goals as goal
use Rattle.order_laws.specs.Members.{has_selector}

abbrev sel : RuleParts → List SelItem
sel r = r.selectors

pub returns-then-not-among : goal.returns-then-not-among
returns-then-not-among c = (
  λ h. absurd (false≢true h),
  λ same. absurd (not_same c.args.upper.now c.args.lower.now c.in_ok-among.among
      (c.in_ok-among.ensures ∙ ap₂ among (c.deref.ensures.value ∙ ap sel c.upper.view_is) (c.deref-2.ensures.value ∙ ap sel c.lower.view_is))
      c.if-not-among.true same),
)

pub returns : goal.returns
returns c =
    IfOk-weaker c.are_selectors_among-2.result (λ back. back ≡ list_all (λ s. has_selector c.deref-4.result.now s.selector) c.deref-3.result.now) _
    (λ back is. same_by_lower c.args.upper.now c.args.lower.now c.in_ok-among.among back
    (c.in_ok-among.ensures ∙ ap₂ among (c.deref.ensures.value ∙ ap sel c.upper.view_is) (c.deref-2.ensures.value ∙ ap sel c.lower.view_is))
    c.if-not-among.false
    (is ∙ ap₂ among (c.deref-3.ensures.value ∙ ap sel c.lower.view_is) (c.deref-4.ensures.value ∙ ap sel c.upper.view_is))) c.are_selectors_among-2.ensures
