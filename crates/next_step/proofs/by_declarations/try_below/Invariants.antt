use Rattle.std.proofs.Common.{ℕ, ◌<◌}
use Rattle.rule_tables.specs.Ahead.{IsAhead, count_left}
use Rattle.next_step.specs.Kinds.{IsByDecls}
use Rattle.next_step.specs.LeftOut.{TellCommonBeside}
use Rattle.next_step.specs.Viewed.{Grows}
use Rattle.next_step.proofs.InCommon.{AreCoveredAhead}
use Rattle.next_step.proofs.by_declarations.try_below.Given as goal

abbrev pub invariant-order_keys : goal.invariant-order_keys
invariant-order_keys l = record {
  grows : Grows l.view l.fn.found l.found;
  covers : AreCoveredAhead l.view l.focus.number IsByDecls l.found l.initial.order_keys l.order_keys;
  below : (x : ℕ) → IsAhead l.order_keys x → l.focus.order_key < x;
  common : (x : ℕ) → IsAhead l.order_keys x → TellCommonBeside l.view l.focus l.order_keys l.left x;
}

abbrev pub decreases-order_keys : goal.decreases-order_keys
decreases-order_keys l = count_left l.order_keys
