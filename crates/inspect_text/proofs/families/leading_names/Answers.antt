use Rattle.std.proofs.Common.{arith, take, ◌+◌}
use Rattle.std.proofs.lemmas.List.{take_all}
use Rattle.inspect_text.proofs.Leading.{leading_all, leading_next}
use Rattle.inspect_text.proofs.Lines.{front_next}
use Rattle.inspect_text.proofs.families.leading_names.Goals as goal

pub loop-e-preserved : goal.loop-e-preserved
loop-e-preserved c =
    leading_next c.are_all-only_all.result c.loop-e.names.items c.push_leading.new.names.items (take c.loop-e.e-index c.args.entries.now) (take (c.loop-e.e-index + 1) c.args.entries.now) c.e-item.result
    (front_next c.args.entries.now c.loop-e.e-index c.e-item.result (omega arith) c.e-item.is) c.in_ok-push_leading.ensures c.loop-e.invariant

pub returns : goal.returns
returns c =
    leading_all c.are_all-only_all.result c.args.entries.now (take c.loop-e.e-index c.args.entries.now) c.loop-e.names.items c.are_all-only_all.ensures
    (take_all c.loop-e.e-index c.args.entries.now (omega arith)) c.loop-e.invariant
