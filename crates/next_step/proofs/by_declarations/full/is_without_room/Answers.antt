use Rattle.std.proofs.Common.{◌≡◌, Some, arith}
use Rattle.std.specs.Prelude.{slice_get}
use Rattle.css_model.specs.declared.sheet.Item.TheVariants.{Rule}
use Rattle.css_model.specs.Sheets.RuleParts.{RuleParts}
use Rattle.next_step.proofs.FullSheets.{none_without_room}
use Rattle.next_step.proofs.PoorShares.{rule_beside}
use Rattle.next_step.proofs.by_declarations.full.is_without_room.Goals as goal

pub returns : goal.returns
returns c = λ once k by first last e n is saves some looked later.
    let theirs : (r : RuleParts) × (slice_get c.args.view.now.indexed.now.items c.args.other ≡ Some (Rule r)) = rule_beside c.args.view.now.indexed.now.items c.args.focus.now c.args.other c.args.partners.now k e c.requires.both first last is in
    let ours_weighed = c.weight_at-ours.ensures c.args.focus.now.rule.now c.requires.focus.rule in
    let theirs_weighed = c.weight_at-theirs.ensures theirs.0 theirs.1 in
    let ours_more = c.keeps_decl.ensures c.if-not-keeps_decl.false in
    let theirs_more = c.keeps_decl-2.ensures c.if-not-keeps_decl-2.false in
    let ours_count = ours_weighed.count in
    let theirs_count = theirs_weighed.count in
    absurd (none_without_room c.args.view.now.indexed.now.items (c.is_full.ensures c.if-not-is_full.false) c.args.focus.now c.args.other theirs.0 c.args.partners.now c.args.common.count c.requires.focus.rule theirs.1 c.requires.both
    (theirs_weighed.once once) (c.requires.common theirs.0 theirs.1).0 (omega (arith, ours_more, ours_count)) (omega (arith, theirs_more, theirs_count)) k e by first last is)
