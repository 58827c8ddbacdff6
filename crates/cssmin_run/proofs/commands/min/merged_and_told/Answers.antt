use Rattle.std.proofs.Common.{Some}
use Rattle.cssmin_run.proofs.Working.{done_by, done_was, spent_by}
use Rattle.cssmin_run.proofs.commands.min.merged_and_told.Goals as goal

pub told_done-requires : goal.told_done-requires
told_done-requires c = done_was c.args.work c.args.budget c.args.bytes.now c.in_ok-merged.merged.0 c.in_ok-merged.merged.1 (c.is_over.ensures.left c.if-is_over.false) c.in_ok-merged.ensures.ok

pub returns-then-is_over-clause-ok : goal.returns-then-is_over-clause-ok
returns-then-is_over-clause-ok c =
    let over = c.is_over.ensures.over c.if-is_over.true in
    spent_by c.told_spent.result (λ m. m.1.items) (λ m. m.2.items) (λ m. Some m.0) c.args.work c.args.budget c.args.asked c.args.bytes.now c.in_ok-merged.merged.0 c.in_ok-merged.merged.1 over.0 over.1 c.in_ok-merged.ensures.ok c.told_spent.ensures.ok

pub returns-else-is_over-clause-ok : goal.returns-else-is_over-clause-ok
returns-else-is_over-clause-ok c =
    done_by c.told_done.result (λ m. m.1.items) (λ m. m.2.items) (λ m. Some m.0) c.args.work c.args.budget c.args.asked c.args.bytes.now c.told_done.ensures.ok

pub told_spent-requires : goal.told_spent-requires
told_spent-requires c = (c.is_over.ensures.over c.if-is_over.true).2
