use Rattle.std.proofs.Common.{◌<◌, length, arith, inl, inr, refl}
use Rattle.next_step.proofs.too_late.by_common.kept_at_least.Goals as goal

pub returns-then-common-count-clause-keeps : goal.returns-then-common-count-clause-keeps
returns-then-common-count-clause-keeps c = λ source r weighs. inl (
  (let few = weighs.count in let less : c.args.common.count < length r.decls = omega (arith, c.if-common-count.true, few) in less),
  (let same = c.from.ensures in let light = weighs.least in omega (arith, same, light)),
)

pub returns-else-common-count-clause-keeps : goal.returns-else-common-count-clause-keeps
returns-else-common-count-clause-keeps c = λ source r weighs. inr refl
