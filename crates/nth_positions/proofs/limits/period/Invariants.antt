-- So far it is the period of the parts so far, and has a factor of at most 32 for each stepped one.
use Rattle.std.proofs.Common.{◌≤◌, ◌^◌, take}
use Rattle.std.specs.Prelude.{count_by}
use Rattle.css_model.specs.Positions.Range.{is_stepped}
use Rattle.nth_positions.proofs.CommonMultiples.{IsPeriod}
use Rattle.nth_positions.proofs.limits.period.Given as goal

abbrev pub invariant-loop-x : goal.invariant-loop-x
invariant-loop-x l = record {
  exact : IsPeriod (take l.x-index l.parts) l.period;
  small : l.period ≤ 32 ^ count_by is_stepped (take l.x-index l.parts);
}
