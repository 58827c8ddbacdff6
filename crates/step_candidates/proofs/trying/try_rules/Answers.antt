use Rattle.std.proofs.Common.{◌≡◌, List, length, ap, ◌∙◌, arith}
use Rattle.css_model.specs.declared.sheet.Item.{Item}
use Rattle.css_model.specs.Sheets.SheetParts.{SheetParts}
use Rattle.step_candidates.proofs.AddedSteps.{all_rules, no_rules, rule_more}
use Rattle.step_candidates.proofs.trying.try_rules.Goals as goal

pub loop-number-init : goal.loop-number-init
loop-number-init c = no_rules c.args.on.now.lengths.now c.args.on.now.sheet.now.items c.args.found.now

pub loop-number-preserved : goal.loop-number-preserved
loop-number-preserved c = rule_more c.args.on.now.lengths.now c.args.on.now.sheet.now.items c.loop-number.number c.args.found.now c.loop-number.found c.try_rule.new.found c.loop-number.invariant c.in_ok-try_rule.ensures

pub returns : goal.returns
returns c =
    let count : c.loop-number.number ≡ length c.as_slice-items.result.now = omega (arith, c.loop-number-test.false, c.loop-number.auto.number-end) in
    let all : c.loop-number.number ≡ length c.args.on.now.sheet.now.items = count ∙ ap (λ (xs : List Item). length xs) (c.as_slice-items.ensures.value ∙ ap (λ (s : SheetParts). s.items) c.sheet.view_is) in
    all_rules c.args.on.now.lengths.now c.args.on.now.sheet.now.items c.loop-number.number c.args.found.now c.loop-number.found (omega (arith, all)) c.loop-number.invariant
