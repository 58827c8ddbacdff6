use Rattle.std.proofs.Common.{arith}
use Rattle.inspect_text.proofs.Placing.{each_next}
use Rattle.inspect_text.proofs.groups.append_each.Goals as goal

pub loop-number-preserved : goal.loop-number-preserved
loop-number-preserved c =
    each_next c.args.line.now c.args.texts.now.items c.loop-number.texts.items c.append_at.new.texts.items c.loop-number.number (omega arith) c.loop-number.invariant c.in_ok-append_at.ensures
