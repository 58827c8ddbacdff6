use Rattle.std.specs.Prelude.{IfSome}
use Rattle.merging_tests.proofs.plain.next_step.Given as goal
use Rattle.step_laws.specs.Steps.{HasStep}

abbrev pub invariant-loop-step : goal.invariant-loop-step
invariant-loop-step g l = record {
  best : IfSome l.best (HasStep l.sheet.items);
}
