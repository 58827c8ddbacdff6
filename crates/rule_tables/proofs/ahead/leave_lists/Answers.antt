use Rattle.std.proofs.Common.{arith, map}
use Rattle.rule_tables.proofs.LeftOut.{leaves_both, leaves_itself}
use Rattle.rule_tables.proofs.ahead.leave_lists.Goals as goal
use Rattle.rule_tables.specs.Ahead.{reached}

pub lists-init : goal.lists-init
lists-init c = record {
  leaves = leaves_itself (map reached c.args.lists.now.items) c.args.left;
  within = λ h. h;
  no_more = omega arith;
}
