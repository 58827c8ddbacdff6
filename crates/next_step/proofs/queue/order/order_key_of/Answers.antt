use Rattle.std.proofs.Common.{sym}
use Rattle.next_step.proofs.StepParts.{order_key_at}
use Rattle.next_step.proofs.queue.order.order_key_of.Goals as goal

pub returns : goal.returns
returns c = sym (order_key_at c.args.indexed.now.marks c.args.number c.mark.result c.mark.ensures)
