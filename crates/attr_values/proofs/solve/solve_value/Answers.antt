use Rattle.std.proofs.Common.{◌∙◌, ap, sym}
use Rattle.attr_values.specs.Asked.{passes_as_asked}
use Rattle.attr_values.proofs.Ends.{value_end, nothing_end}
use Rattle.attr_values.proofs.solve.solve_value.Goals as goal

pub returns-then-branch : goal.returns-then-branch
returns-then-branch c =
    value_end c.args.tests.now c.in_ok-value.value c.if-spaces_taken.ensures c.if-not-is_asked.ensures
    (sym c.if-branch.true ∙ c.in_ok-passes_as_asked.ensures ∙ ap (passes_as_asked c.args.tests.now) c.codes.ensures.value) c.in_ok-value.ensures

pub returns-else-branch : goal.returns-else-branch
returns-else-branch c =
    nothing_end c.args.tests.now c.in_ok-value.value c.if-spaces_taken.ensures c.if-not-is_asked.ensures
    (sym c.if-branch.false ∙ c.in_ok-passes_as_asked.ensures ∙ ap (passes_as_asked c.args.tests.now) c.codes.ensures.value) c.in_ok-value.ensures
