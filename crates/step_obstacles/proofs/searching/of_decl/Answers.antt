use Rattle.std.proofs.Common.{◌≡◌, Some, ap, sym, ◌∙◌}
use Rattle.std.specs.Prelude.{slice_get}
use Rattle.related_props.specs.Masks.{decl_mask}
use Rattle.step_obstacles.proofs.Masked.{at_map, decl_counts, decl_passed, told_counted}
use Rattle.step_obstacles.proofs.searching.of_decl.Goals as goal
use Rattle.step_obstacles.specs.Turns.{mask_in}

pub own_mask-mask-requires : goal.own_mask-mask-requires
own_mask-mask-requires c =
    let x = c.requires.part in
    (mask_in c.args.source.now.with x.0, at_map (mask_in c.args.source.now.with) c.args.source.now.rule.now.decls c.args.source.now.masks.items c.args.part x.0 c.requires.masked.masks x.1)

pub returns-then-mask-met-eq0-clause-told : goal.returns-then-mask-met-eq0-clause-told
returns-then-mask-met-eq0-clause-told c =
    decl_passed c.args.window.now c.args.met.now c.args.source.now c.args.part c.own_mask-mask.result c.requires.met c.requires.masked c.own_mask-mask.ensures c.args.pairs.now.answers c.if-mask-met-eq0.true

pub with_item-requires-clause-moved : goal.with_item-requires-clause-moved
with_item-requires-clause-moved c =
    let x = c.requires.part in
    let counts = decl_counts c.args.window.now c.args.met.now c.args.source.now c.args.part c.own_mask-mask.result c.requires.met c.requires.masked c.own_mask-mask.ensures c.if-mask-met-eq0.false x.0 x.1 in
    let same = c.decl_of.ensures x.0 x.1 in
    record {
      at = record { item = x.0; rule_at = c.requires.source; decl_at = x.1; is = sym same; masked = counts.1 ∙ ap decl_mask (sym same) };
      specificities = c.deref.ensures.value ∙ c.requires.masked.specificities;
      selectors = c.deref-2.ensures.value ∙ c.requires.masked.selectors;
    }

pub returns-clause-told : goal.returns-clause-told
returns-clause-told c =
    told_counted c.with_item.new.pairs.answers c.args.window.now.items.now c.args.met.now.number c.args.met.now.item.now c.args.window.now c.args.source.now c.decl_of.result.now
    (λ x. slice_get c.args.source.now.rule.now.decls c.args.part ≡ Some x)
    (λ x at. (decl_counts c.args.window.now c.args.met.now c.args.source.now c.args.part c.own_mask-mask.result c.requires.met c.requires.masked c.own_mask-mask.ensures c.if-mask-met-eq0.false x at).0)
    c.decl_of.ensures c.with_item.result c.with_item.ensures.told
