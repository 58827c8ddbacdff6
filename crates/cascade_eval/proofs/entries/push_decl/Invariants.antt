use Rattle.std.proofs.Common.{◌≡◌, ◌++◌, length}
use Rattle.cascade_eval.specs.Entries.{weighed}
use Rattle.cascade_eval.proofs.entries.push_decl.Given as goal

abbrev pub invariant-weights : goal.invariant-weights
invariant-weights l =
    l.found.items ++ weighed l.left (record { item = l.item; position = l.position }) l.decl
    ≡ l.initial.found.items ++ weighed l.fn.weights (record { item = l.item; position = l.position }) l.decl

abbrev pub decreases-weights : goal.decreases-weights
decreases-weights l = length l.left
