use Rattle.merge_steps.specs.Listing.{ListsTo}
use Rattle.step_kinds.specs.StepsByKind.{kind_number}
use Rattle.merge_steps.proofs.listing.push_row.Given as goal

-- the steps of this row so far are listed
abbrev pub invariant-loop-second : goal.invariant-loop-second
invariant-loop-second l = ListsTo l.sheet.items (kind_number l.kind) l.first l.second l.found.items
