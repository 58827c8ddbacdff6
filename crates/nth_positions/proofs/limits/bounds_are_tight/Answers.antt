-- The laws, part by part.
use Rattle.std.proofs.Common.{arith}
use Rattle.nth_positions.specs.Gaps.{greatest_count, threshold_of, period_of}
use Rattle.nth_positions.proofs.CommonMultiples.{period_exists, step_divides}
use Rattle.nth_positions.proofs.FirstPassing.{width_least}
use Rattle.nth_positions.proofs.Offsets.{offset_below}
use Rattle.nth_positions.proofs.limits.bounds_are_tight.Goals as goal

pub returns-clause-offsets : goal.returns-clause-offsets
returns-clause-offsets c = offset_below

pub returns-clause-steps : goal.returns-clause-steps
returns-clause-steps c = step_divides

pub returns-clause-multiples : goal.returns-clause-multiples
returns-clause-multiples c parts = (period_exists parts).least

pub returns-clause-positive : goal.returns-clause-positive
returns-clause-positive c parts = (omega arith, (period_exists parts).positive)

pub returns-clause-least : goal.returns-clause-least
returns-clause-least c parts = width_least (greatest_count (threshold_of parts) (period_of parts))
