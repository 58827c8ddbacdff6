use Rattle.std.proofs.Common.{None, ap, sym, ◌∙◌}
use Rattle.cascade_laws.proofs.ForCallers.{some-same}
use Rattle.related_props.specs.Masks.{decl_mask}
use Rattle.step_obstacles.proofs.Masked.{at_map}
use Rattle.step_obstacles.proofs.searching.with_number.Goals as goal
use Rattle.step_obstacles.specs.Turns.{mask_in}

pub mask_at-requires : goal.mask_at-requires
mask_at-requires c =
    let g = c.requires.number in
    (mask_in None g.0, at_map (mask_in None) c.args.met.now.rule.now.decls c.args.met.now.masks.now c.args.number g.0 c.requires.met.masks g.1)

pub with_other-requires-clause-other : goal.with_other-requires-clause-other
with_other-requires-clause-other c =
    let g = c.requires.number in
    let same = c.decl_of.ensures g.0 g.1 in
    let mask_is = some-same (sym c.mask_at.ensures ∙ at_map (mask_in None) c.args.met.now.rule.now.decls c.args.met.now.masks.now c.args.number g.0 c.requires.met.masks g.1) in
    record { item = g.0; rule_at = c.requires.met.rule; decl_at = g.1; is = sym same; masked = mask_is ∙ ap decl_mask (sym same) }
