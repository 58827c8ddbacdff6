use Rattle.std.proofs.Common.{◌≡◌, ap, ◌∙◌, subst}
use Rattle.css_model.specs.declared.sheet.SelItem.{SelItem}
use Rattle.css_model.specs.Sheets.RuleParts.{RuleParts}
use Rattle.rule_tables.specs.Digests.{selector_digest}
use Rattle.rule_tables.specs.Tables.{selector_digests}
use Rattle.rule_tables.proofs.ForCallers.{some_then}
use Rattle.next_step.specs.Once.{StandOnce}
use Rattle.next_step.proofs.Repeats.{by_digests, by_once}
use Rattle.next_step.proofs.cuts.doubles.repeated_selectors.Goals as goal

pub returns-then-len-lt-FEW : goal.returns-then-len-lt-FEW
returns-then-len-lt-FEW c =
    some_then c.of_few.result.digests _ _ (λ set different. by_once (λ (x : SelItem). x.selector) selector_digest c.args.rule.now.selectors set
    (subst (StandOnce (λ (x : SelItem). x.selector)) (c.deref.ensures.value ∙ ap (λ (r : RuleParts). r.selectors) c.rule.view_is) (c.are_selectors_different.ensures different))) c.of_few.ensures

pub returns : goal.returns
returns c =
    let are : c.in_ok-digests.digests.items ≡ selector_digests c.args.rule.now.selectors = c.in_ok-digests.ensures ∙ ap selector_digests (c.deref-2.ensures.value ∙ ap (λ (r : RuleParts). r.selectors) c.rule.view_is) in
    by_digests (λ (x : SelItem). x.selector) selector_digest c.args.rule.now.selectors c.in_ok-digests.digests.items c.in_ok-set.set are c.in_ok-set.ensures
