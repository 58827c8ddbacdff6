use Rattle.std.proofs.Common.{◌≡◌, Some}
use Rattle.std.specs.Prelude.{slice_get}
use Rattle.css_model.specs.declared.sheet.Item.TheVariants.{Rule}
use Rattle.css_model.specs.Sheets.RuleParts.{RuleParts}
use Rattle.next_step.proofs.PoorShares.{poor_covers, rule_beside}
use Rattle.next_step.proofs.too_late.by_common.is_poor.Goals as goal

pub returns-in-Some : goal.returns-in-Some
returns-in-Some c = λ known k by first last e n is.
    let theirs : (r : RuleParts) × (slice_get c.args.view.now.indexed.now.items c.args.other ≡ Some (Rule r)) = rule_beside c.args.view.now.indexed.now.items c.args.focus.now c.args.other c.args.partners.now k e c.requires.both first last is in
    poor_covers c.args.view.now c.requires.view.plannable c.args.found.now c.args.focus.now c.args.other theirs.0 c.args.partners.now c.args.common c.in-Some.most c.requires.focus.rule theirs.1
    (c.requires.partners.apart c.if-not-partners.false) c.requires.both (c.are_plain.ensures.ours c.if-not-are_plain.false) (c.are_plain.ensures.theirs c.if-not-are_plain.false theirs.0 theirs.1) (c.requires.common theirs.0 theirs.1)
    (c.in-Some.ensures c.args.view.now.source.now c.args.focus.now.rule.now theirs.0 (c.weight_at-ours.ensures c.args.focus.now.rule.now c.requires.focus.rule) (c.weight_at-theirs.ensures theirs.0 theirs.1)) (c.is_share_late.ensures known) k by first last e n is
