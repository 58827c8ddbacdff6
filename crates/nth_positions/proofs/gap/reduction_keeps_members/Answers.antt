-- The laws, part by part.
use Rattle.nth_positions.specs.Gaps.{greatest_count, threshold_of, period_of}
use Rattle.nth_positions.proofs.FirstPassing.{width_holds}
use Rattle.nth_positions.proofs.Repeats.{members_kept, zero_kept, reduced_below}
use Rattle.nth_positions.proofs.gap.reduction_keeps_members.Goals as goal

pub returns-clause-members : goal.returns-clause-members
returns-clause-members c = members_kept

pub returns-clause-zero : goal.returns-clause-zero
returns-clause-zero c = zero_kept

pub returns-clause-below : goal.returns-clause-below
returns-clause-below c = reduced_below

pub returns-clause-width : goal.returns-clause-width
returns-clause-width c parts = width_holds (greatest_count (threshold_of parts) (period_of parts))
