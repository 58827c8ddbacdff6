use Rattle.std.proofs.Common.{◌++◌, ◌∙◌, sym}
use Rattle.compound_fit.proofs.Small.{small_is_fittable}
use Rattle.compound_fit.proofs.conditions.both_are_small.Goals as goal

pub returns-clause-enough : goal.returns-clause-enough
returns-clause-enough c = λ small. small_is_fittable (c.args.x.now ++ c.args.y.now) (sym c.are_small.ensures ∙ small)
