use Rattle.std.proofs.Common.{false, get_or, sym, ap, ◌∙◌}
use Rattle.sat_core.proofs.LearnedLemmas.{unmarked-more}
use Rattle.sat_core.proofs.learning.last_marked.Goals as goal

pub loop-k-preserved : goal.loop-k-preserved
loop-k-preserved c = unmarked-more c.args.trail.now.entries c.args.seen.now c.loop-k.k c.args.at c.entry.result c.loop-k.invariant c.entry.ensures.literal (ap (λ v. get_or c.args.seen.now v false) (sym c.variable.ensures) ∙ c.if-seen-variable.false)
