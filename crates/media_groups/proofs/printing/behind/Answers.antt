use Rattle.std.proofs.Common.{sym, ◌∙◌}
use Rattle.media_groups.proofs.Texts.{none_behind}
use Rattle.media_groups.proofs.printing.behind.Goals as goal

pub returns-in-empty : goal.returns-in-empty
returns-in-empty c =
    c.behind_last.ensures c.args.text.now c.args.gap
    ∙ sym (none_behind (record { kind = c.args.kind; bytes = c.args.text.now; gap = c.args.gap }) c.args.others.now c.in-empty.len_below)
