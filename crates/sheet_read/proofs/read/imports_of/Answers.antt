use Rattle.std.proofs.Common.{true, false, sym, ◌∙◌, arith}
use Rattle.sheet_read.specs.Steps as steps
use Rattle.sheet_read.proofs.ReadSteps.{placed_parts, count_step, namespace_later}
use Rattle.sheet_read.proofs.read.imports_of.Goals as goal

pub is_namespace-requires : goal.is_namespace-requires
is_namespace-requires c =
    let parts = c.in-Some.ensures.parts in
    (placed_parts c.args.source.now c.items.rest.now parts.0 c.in-Some.item.now c.in-Some.behind.now parts.1 c.items.invariant.placed).0

pub is_import-requires : goal.is_import-requires
is_import-requires c =
    let parts = c.in-Some.ensures.parts in
    (placed_parts c.args.source.now c.items.rest.now parts.0 c.in-Some.item.now c.in-Some.behind.now parts.1 c.items.invariant.placed).0

pub items-preserved-then-is_import : goal.items-preserved-then-is_import
items-preserved-then-is_import c =
    let source = c.args.source.now in
    let item = c.in-Some.item.now in
    let parts = c.in-Some.ensures.parts in
    let raw = steps.whole_items c.items.rest.now in
    let later = steps.whole_items c.in-Some.behind.now in
    let count = count_step source raw later item true c.in-Some.ensures.first (sym c.is_import.ensures ∙ c.if-is_import.true) in
    record {
      counted = omega (arith, count, c.items.invariant.counted);
      namespace = sym (namespace_later source raw later item c.in-Some.ensures.first (sym c.is_namespace.ensures ∙ c.if-is_namespace.false)) ∙ c.items.invariant.namespace;
      placed = (placed_parts source c.items.rest.now parts.0 item c.in-Some.behind.now parts.1 c.items.invariant.placed).1;
      few = omega (arith, c.in-Some.ensures.shorter, c.items.invariant.few);
    }

pub items-preserved : goal.items-preserved
items-preserved c =
    let source = c.args.source.now in
    let item = c.in-Some.item.now in
    let parts = c.in-Some.ensures.parts in
    let raw = steps.whole_items c.items.rest.now in
    let later = steps.whole_items c.in-Some.behind.now in
    let count = count_step source raw later item false c.in-Some.ensures.first (sym c.is_import.ensures ∙ c.if-is_import.false) in
    record {
      counted = omega (arith, count, c.items.invariant.counted);
      namespace = sym (namespace_later source raw later item c.in-Some.ensures.first (sym c.is_namespace.ensures ∙ c.if-is_namespace.false)) ∙ c.items.invariant.namespace;
      placed = (placed_parts source c.items.rest.now parts.0 item c.in-Some.behind.now parts.1 c.items.invariant.placed).1;
      few = omega (arith, c.in-Some.ensures.shorter, c.items.invariant.few);
    }
