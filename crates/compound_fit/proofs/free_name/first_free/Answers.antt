use Rattle.std.proofs.Common.{◌∙◌, sym, ap, arith}
use Rattle.compound_fit.specs.FreeNames.{is_among}
use Rattle.compound_fit.proofs.FreeNames.{is_taken, none_free}
use Rattle.compound_fit.proofs.free_name.first_free.Goals.{else-loop-number-test, then-loop-number-test+in_ok-name+else-is_free+else-number-number-end}
use Rattle.compound_fit.proofs.free_name.first_free.Goals as goal

pub unreachable-requires : goal.unreachable-requires
unreachable-requires c =
    elim c.loop-number-test.branch [
      | else-loop-number-test w ↦ omega arith
      | then-loop-number-test+in_ok-name+else-is_free+else-number-number-end w ↦
          none_free c.args.refused.now c.loop-number.number (omega arith) (omega arith) c.loop-number.invariant
          (ap (is_among c.args.refused.now) (sym w.in_ok-name.ensures) ∙ is_taken (is_among c.args.refused.now w.in_ok-name.name) w.if-is_free.ensures)
    ]
