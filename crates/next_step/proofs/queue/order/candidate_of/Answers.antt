use Rattle.std.proofs.Common.{sym}
use Rattle.next_step.proofs.StepParts.{first_there, item_there, priority_is}
use Rattle.indexed_sheet.specs.MarkList.{order_keys_of}
use Rattle.next_step.proofs.queue.order.candidate_of.Goals as goal

pub order_key_of-requires : goal.order_key_of-requires
order_key_of-requires c = first_there c.args.view.now.indexed.now.items c.args.step.now c.kind_of-kind.result.0 c.kind_of-kind.result.1 c.kind_of-kind.result.2 c.requires c.kind_of-kind.ensures

pub last_name-requires : goal.last_name-requires
last_name-requires c = item_there c.args.view.now.indexed.now.items c.args.step.now c.kind_of-kind.result.0 c.kind_of-kind.result.1 c.kind_of-kind.result.2 c.requires c.kind_of-kind.ensures

pub returns-clause-priority : goal.returns-clause-priority
returns-clause-priority c =
    priority_is (order_keys_of c.args.view.now.indexed.now.marks) c.args.step.now c.kind_of-kind.result.0 c.kind_of-kind.result.1 c.kind_of-kind.result.2 c.order_key_of.result c.last_name.result c.args.saving c.kind_of-kind.ensures
    (sym c.order_key_of.ensures) (sym c.last_name.ensures)
