use Rattle.std.proofs.Common.{List, Bool, subst, sym}
use Rattle.attr_values.specs.Separators.{AreMarks}
use Rattle.attr_values.proofs.Unused.{unmarked_is}
use Rattle.attr_values.proofs.separators.first_unused.Goals as goal

pub returns : goal.returns
returns c =
    unmarked_is c.as_slice.result.now c.args.tests.now c.first_unmarked.result
    (subst (λ (marks : List Bool). AreMarks marks c.args.tests.now) (sym c.as_slice.ensures.value) c.in_ok-marks.ensures) c.first_unmarked.ensures
