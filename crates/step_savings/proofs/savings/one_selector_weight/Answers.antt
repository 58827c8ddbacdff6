use Rattle.std.proofs.Common.{◌≡◌, ◌+◌, length, arith}
use Rattle.std.specs.List.{remove}
use Rattle.css_model.specs.Sheets.Printed.{printed_selector}
use Rattle.step_laws.specs.Sizes.{weight}
use Rattle.step_savings.proofs.CutWeights.{part_weighs}
use Rattle.step_savings.proofs.savings.one_selector_weight.Goals as goal

pub selector-requires-clause-short : goal.selector-requires-clause-short
selector-requires-clause-short g c =
    let whole : length (printed_selector (g.L.Lengths.source c.args.lengths.now) c.selector_at-item.result.now) + 1 + weight (printed_selector (g.L.Lengths.source c.args.lengths.now)) (remove c.args.items.now c.args.number) ≡ weight (printed_selector (g.L.Lengths.source c.args.lengths.now)) c.args.items.now = part_weighs (printed_selector (g.L.Lengths.source c.args.lengths.now)) c.args.items.now c.args.number c.selector_at-item.result.now c.selector_at-item.ensures in
    omega (arith, whole, c.requires.small)

pub overflow_add-result : goal.overflow_add-result
overflow_add-result g c =
    let whole : length (printed_selector (g.L.Lengths.source c.args.lengths.now) c.selector_at-item.result.now) + 1 + weight (printed_selector (g.L.Lengths.source c.args.lengths.now)) (remove c.args.items.now c.args.number) ≡ weight (printed_selector (g.L.Lengths.source c.args.lengths.now)) c.args.items.now = part_weighs (printed_selector (g.L.Lengths.source c.args.lengths.now)) c.args.items.now c.args.number c.selector_at-item.result.now c.selector_at-item.ensures in
    omega (arith, whole, c.requires.small, c.selector.ensures)

pub returns-clause-exact : goal.returns-clause-exact
returns-clause-exact g c =
    let whole : length (printed_selector (g.L.Lengths.source c.args.lengths.now) c.selector_at-item.result.now) + 1 + weight (printed_selector (g.L.Lengths.source c.args.lengths.now)) (remove c.args.items.now c.args.number) ≡ weight (printed_selector (g.L.Lengths.source c.args.lengths.now)) c.args.items.now = part_weighs (printed_selector (g.L.Lengths.source c.args.lengths.now)) c.args.items.now c.args.number c.selector_at-item.result.now c.selector_at-item.ensures in
    omega (arith, whole, c.selector.ensures)

pub returns-clause-small : goal.returns-clause-small
returns-clause-small g c =
    let whole : length (printed_selector (g.L.Lengths.source c.args.lengths.now) c.selector_at-item.result.now) + 1 + weight (printed_selector (g.L.Lengths.source c.args.lengths.now)) (remove c.args.items.now c.args.number) ≡ weight (printed_selector (g.L.Lengths.source c.args.lengths.now)) c.args.items.now = part_weighs (printed_selector (g.L.Lengths.source c.args.lengths.now)) c.args.items.now c.args.number c.selector_at-item.result.now c.selector_at-item.ensures in
    omega (arith, whole, c.requires.small, c.selector.ensures)
