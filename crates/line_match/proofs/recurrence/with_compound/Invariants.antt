use Rattle.std.proofs.Common.{◌≡◌, ◌<◌, ◌^◌, drop}
use Rattle.line_match.specs.Recurring.{with_compound}
use Rattle.line_match.proofs.recurrence.with_compound.Given as goal

abbrev pub invariant-loop-simple : goal.invariant-loop-simple
invariant-loop-simple l = record {
  value : with_compound l.with (drop l.simple-index l.simples) ≡ with_compound l.fn.recurrence l.simples;
  near : l.with.threshold < 2 ^ 32;
}
