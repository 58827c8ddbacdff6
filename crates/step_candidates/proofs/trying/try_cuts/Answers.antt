use Rattle.std.proofs.Common.{◌≡◌, ◌+◌, ◌≤◌, length, arith}
use Rattle.css_model.specs.Sheets.Limits.{max_bytes}
use Rattle.step_candidates.proofs.AddedSteps.{all_cuts, parts_small}
use Rattle.step_candidates.proofs.trying.try_cuts.Goals as goal

pub overflow_cast-decls : goal.overflow_cast-decls
overflow_cast-decls c =
    let small : length c.args.rule.now.decls + length c.args.rule.now.selectors ≤ max_bytes =
    parts_small c.parts_are_few.ensures c.args.on.now.tables.now c.args.on.now.lengths.now c.args.on.now.sheet.now.items c.requires.ready c.args.number c.args.rule.now c.requires.rule in
    let count : c.decl_count-decls.result ≡ length c.args.rule.now.decls = c.decl_count-decls.ensures in
    omega (arith, small, count)

pub overflow_cast-selectors : goal.overflow_cast-selectors
overflow_cast-selectors c =
    let small : length c.args.rule.now.decls + length c.args.rule.now.selectors ≤ max_bytes =
    parts_small c.parts_are_few.ensures c.args.on.now.tables.now c.args.on.now.lengths.now c.args.on.now.sheet.now.items c.requires.ready c.args.number c.args.rule.now c.requires.rule in
    let count : c.selector_count-selectors.result ≡ length c.args.rule.now.selectors = c.selector_count-selectors.ensures in
    omega (arith, small, count)

pub returns : goal.returns
returns c =
    all_cuts c.args.on.now.lengths.now c.args.on.now.sheet.now.items c.args.number c.decl_count-decls.result c.selector_count-selectors.result c.args.rule.now
    c.args.found.now c.try_decl_cuts.new.found c.try_selector_cuts.new.found c.requires.rule c.decl_count-decls.ensures c.selector_count-selectors.ensures
    c.in_ok-try_decl_cuts.ensures c.in_ok-try_selector_cuts.ensures
