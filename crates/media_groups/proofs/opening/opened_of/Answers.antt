use Rattle.std.proofs.Common.{◌-◌, length, take, drop}
use Rattle.media_groups.proofs.Counts.{cons_of, opened_step}
use Rattle.media_groups.proofs.opening.opened_of.Goals as goal

pub items-preserved : goal.items-preserved
items-preserved c =
    let rest = c.items.rest.now in
    opened_step c.args.reading.now.source.now c.args.items.now c.items.media.items _ c.items.number c.items.imports _ rest (take (length rest - 1) (drop 1 rest)) _
    (cons_of rest c.item-item.result c.in-len1-up.len_at_least c.item-item.is) c.items.invariant c.imports_behind-imports.ensures c.in_ok-push_opened.ensures
