use Rattle.merge_report.proofs.Growing.{told_remain}
use Rattle.merge_report.proofs.remaining.remaining_steps.Goals as goal

pub returns-clause-are : goal.returns-clause-are
returns-clause-are c =
    told_remain c.told_in_block.result (λ told. told.items) c.blocked_steps.new.pairs.answers c.args.source.now c.args.sheet.now.items c.args.block c.in_ok-found.found.items c.as_slice.result.now c.as_slice.ensures.value c.in_ok-found.ensures.are
    c.told_in_block.ensures
