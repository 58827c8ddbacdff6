use Rattle.std.proofs.Common.{◌-◌, length, take, drop, sym, ap, ◌∙◌, arith}
use Rattle.media_groups.proofs.Counts.{cons_of, count_one, count_none}
use Rattle.media_groups.proofs.opening.imports_of.Goals as goal

pub items-preserved-then-is_import : goal.items-preserved-then-is_import
items-preserved-then-is_import c =
    let rest = c.items.rest.now in
    let cut = cons_of rest c.item-item.result c.in-len1-up.len_at_least c.item-item.is in
    record {
      counted = count_one c.args.reading.now.source.now rest (take (length rest - 1) (drop 1 rest)) _ c.items.imports _ cut (sym c.is_import.ensures ∙ c.if-is_import.true) c.items.invariant.counted;
      few = omega (arith, ap length cut, c.items.invariant.few);
    }

pub items-preserved : goal.items-preserved
items-preserved c =
    let rest = c.items.rest.now in
    let cut = cons_of rest c.item-item.result c.in-len1-up.len_at_least c.item-item.is in
    record {
      counted = count_none c.args.reading.now.source.now rest (take (length rest - 1) (drop 1 rest)) _ c.items.imports _ cut (sym c.is_import.ensures ∙ c.if-is_import.false) c.items.invariant.counted;
      few = omega (arith, ap length cut, c.items.invariant.few);
    }
