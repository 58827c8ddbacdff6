use Rattle.std.proofs.Common.{◌≡◌, arith}
use Rattle.step_queue.specs.Told.{candidate_told}
use Rattle.next_step.proofs.Ranks.{ranked}
use Rattle.next_step.proofs.queue.order.is_sooner.Goals as goal

pub returns : goal.returns
returns c =
    let same : c.args.one.now.saving.0 ≡ c.args.other.now.saving.0 = omega arith in
    ranked (candidate_told c.args.one.now).priority (candidate_told c.args.other.now).priority same _ _ (c.kind_number.ensures c.args.one.now.first c.args.one.now.second) (c.kind_number-2.ensures c.args.other.now.first c.args.other.now.second)
    c.come_before.result c.come_before.ensures
