use Rattle.std.proofs.Common.{◌≡◌, ◌<◌, suc, ◌-◌, length, sym, arith}
use Rattle.cascade_eval.proofs.Greatest.{best_step}
use Rattle.cascade_eval.proofs.best.best_of.Goals as goal

pub loop-left-preserved-then-has_name : goal.loop-left-preserved-then-has_name
loop-left-preserved-then-has_name c =
    let more : c.loop-left.left ≡ suc (c.loop-left.left - 1) = omega arith in
    let within : c.loop-left.left - 1 < length c.args.entries.now = omega arith in
    record {
      best = best_step c.args.name.now c.args.entries.now (c.loop-left.left - 1) c.loop-left.left c.index-entries-left.result c.greater.result c.loop-left.best
          more within c.index-entries-left.is (sym c.if-has_name.ensures) c.loop-left.invariant.best c.greater.ensures;
      within = omega arith;
    }
