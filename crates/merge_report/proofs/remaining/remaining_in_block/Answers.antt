use Rattle.std.proofs.Common.{map}
use Rattle.merge_report.proofs.Inside.{body_done, body_plannable, body_remains}
use Rattle.merge_report.proofs.remaining.remaining_in_block.Goals as goal
use Rattle.sheet_order.specs.Laws.{answer_seen}

pub remaining_steps-requires-clause-plannable : goal.remaining_steps-requires-clause-plannable
remaining_steps-requires-clause-plannable c = body_plannable c.read_is_plannable.ensures c.args.source.now c.text-body.result.now c.args.block.now c.requires.block c.text-body.ensures

pub remaining_steps-requires-clause-done : goal.remaining_steps-requires-clause-done
remaining_steps-requires-clause-done c = body_done (map answer_seen c.args.pairs.now.answers) c.args.source.now c.text-body.result.now c.args.block.now c.text-body.ensures c.requires.done

pub returns-clause-are : goal.returns-clause-are
returns-clause-are c =
    body_remains c.remaining_steps.result (λ found. found.items) c.remaining_steps.new.pairs.answers c.args.source.now c.text-body.result.now c.args.block.now c.text-body.ensures c.remaining_steps.ensures.are
