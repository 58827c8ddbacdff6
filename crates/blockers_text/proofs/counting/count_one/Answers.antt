use Rattle.std.proofs.Common.{◌++◌, ◌∷◌, [], ap, ◌∙◌}
use Rattle.blockers_text.proofs.Planning.{counts_step}
use Rattle.blockers_text.proofs.counting.count_one.Goals as goal
use Rattle.blockers_text.specs.declared.totals.Weighed.{Weighed}

pub returns-clause-counts : goal.returns-clause-counts
returns-clause-counts c = λ later is.
    counts_step later c.args.source.now c.args.sheet.now.items c.args.step.now c.in_ok-stopped.stopped c.args.steps.now.items c.push.new.self.items c.args.tallies.now.items c.count_step.new.tallies.items
    (c.in_ok-stopped.ensures.tells later is) (c.in_ok-push.ensures.items ∙ ap (λ (w : Weighed). c.args.steps.now.items ++ w ∷ []) c.weigh.ensures) c.count_step.ensures
