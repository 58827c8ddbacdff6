use Rattle.std.proofs.Common.{arith}
use Rattle.next_step.proofs.too_late.by_common.most_saved.Goals as goal

pub returns : goal.returns
returns c = λ source r q ours theirs. (
  c.kept_at_least.result,
  c.kept_at_least-2.result,
  c.kept_at_least.ensures.keeps source r ours,
  c.kept_at_least-2.ensures.keeps source q theirs,
  omega (arith, c.if-kept-eq0.false),
  omega (arith, c.saturating_sub.ensures),
)
