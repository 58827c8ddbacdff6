use Rattle.merging_tests.proofs.plain.merged.Given as goal
use Rattle.plan_laws.specs.Plannable.{IsPlannable}

abbrev pub invariant-loop-taken : goal.invariant-loop-taken
invariant-loop-taken g l = record {
  plannable : IsPlannable l.source l.sheet.items;
}
