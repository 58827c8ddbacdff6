use Rattle.merge_steps.specs.Listing.{ListsTo}
use Rattle.step_kinds.specs.StepsByKind.{kind_number}
use Rattle.merge_steps.proofs.listing.push_kind.Given as goal

-- the steps of this kind so far are listed
abbrev pub invariant-loop-first : goal.invariant-loop-first
invariant-loop-first l = ListsTo l.sheet.items (kind_number l.kind) l.first 0 l.found.items
