use Rattle.std.proofs.Common.{◌≡◌, ◌+◌, length, arith}
use Rattle.std.specs.List.{remove}
use Rattle.css_model.specs.Sheets.Printed.{printed_declaration}
use Rattle.step_laws.specs.Sizes.{weight}
use Rattle.step_savings.proofs.CutWeights.{part_weighs}
use Rattle.step_savings.proofs.savings.one_decl_weight.Goals as goal

pub decl-requires-clause-short : goal.decl-requires-clause-short
decl-requires-clause-short g c =
    let whole : length (printed_declaration (g.L.Lengths.source c.args.lengths.now) c.decl_at-item.result.now) + 1 + weight (printed_declaration (g.L.Lengths.source c.args.lengths.now)) (remove c.args.items.now c.args.number) ≡ weight (printed_declaration (g.L.Lengths.source c.args.lengths.now)) c.args.items.now = part_weighs (printed_declaration (g.L.Lengths.source c.args.lengths.now)) c.args.items.now c.args.number c.decl_at-item.result.now c.decl_at-item.ensures in
    omega (arith, whole, c.requires.small)

pub overflow_add-result : goal.overflow_add-result
overflow_add-result g c =
    let whole : length (printed_declaration (g.L.Lengths.source c.args.lengths.now) c.decl_at-item.result.now) + 1 + weight (printed_declaration (g.L.Lengths.source c.args.lengths.now)) (remove c.args.items.now c.args.number) ≡ weight (printed_declaration (g.L.Lengths.source c.args.lengths.now)) c.args.items.now = part_weighs (printed_declaration (g.L.Lengths.source c.args.lengths.now)) c.args.items.now c.args.number c.decl_at-item.result.now c.decl_at-item.ensures in
    omega (arith, whole, c.requires.small, c.decl.ensures)

pub returns-clause-exact : goal.returns-clause-exact
returns-clause-exact g c =
    let whole : length (printed_declaration (g.L.Lengths.source c.args.lengths.now) c.decl_at-item.result.now) + 1 + weight (printed_declaration (g.L.Lengths.source c.args.lengths.now)) (remove c.args.items.now c.args.number) ≡ weight (printed_declaration (g.L.Lengths.source c.args.lengths.now)) c.args.items.now = part_weighs (printed_declaration (g.L.Lengths.source c.args.lengths.now)) c.args.items.now c.args.number c.decl_at-item.result.now c.decl_at-item.ensures in
    omega (arith, whole, c.decl.ensures)

pub returns-clause-small : goal.returns-clause-small
returns-clause-small g c =
    let whole : length (printed_declaration (g.L.Lengths.source c.args.lengths.now) c.decl_at-item.result.now) + 1 + weight (printed_declaration (g.L.Lengths.source c.args.lengths.now)) (remove c.args.items.now c.args.number) ≡ weight (printed_declaration (g.L.Lengths.source c.args.lengths.now)) c.args.items.now = part_weighs (printed_declaration (g.L.Lengths.source c.args.lengths.now)) c.args.items.now c.args.number c.decl_at-item.result.now c.decl_at-item.ensures in
    omega (arith, whole, c.requires.small, c.decl.ensures)
