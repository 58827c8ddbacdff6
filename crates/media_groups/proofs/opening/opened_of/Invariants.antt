use Rattle.std.proofs.Common.{length}
use Rattle.media_groups.proofs.Counts.{IsOpenedTo}
use Rattle.media_groups.proofs.opening.opened_of.Given as goal

-- the opened blocks so far, and the `@import` rules that are left
abbrev pub invariant-items : goal.invariant-items
invariant-items l = IsOpenedTo l.reading.source.now l.items l.media.items l.number l.imports l.rest

abbrev pub decreases-items : goal.decreases-items
decreases-items l = length l.rest
