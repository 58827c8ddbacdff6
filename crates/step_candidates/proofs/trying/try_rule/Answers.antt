use Rattle.std.proofs.Common.{◌≡◌, ℕ, List, Some, subst, sym}
use Rattle.std.specs.Prelude.{slice_get}
use Rattle.std.specs.List.{Contains}
use Rattle.css_model.specs.declared.sheet.Item.TheVariants.{Rule}
use Rattle.step_candidates.proofs.AddedSteps.{whole_rule}
use Rattle.step_candidates.proofs.trying.try_rule.Goals as goal

pub returns : goal.returns
returns c =
    whole_rule c.args.on.now.lengths.now c.args.on.now.sheet.now.items c.args.on.now.tables.now c.requires c.args.number c.in-Some.rule.now
    (subst (λ (n : ℕ). slice_get c.args.on.now.sheet.now.items n ≡ Some (Rule c.in-Some.rule.now)) c.from.ensures c.in-Some.ensures.some)
    c.deref.result.now c.steps_have_partners.ensures c.rules_are_order_keyed.ensures
    (λ rules x cover among can. subst (λ (xs : List ℕ). Contains xs x.order_key) (sym c.deref.ensures.value) (c.in_ok-partners.ensures.all rules x cover among can))
    c.args.found.now c.try_cuts.new.found c.try_partners.new.found c.in_ok-try_cuts.ensures c.in_ok-try_partners.ensures
