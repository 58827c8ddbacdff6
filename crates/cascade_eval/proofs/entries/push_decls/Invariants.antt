use Rattle.std.proofs.Common.{◌≡◌, ◌+◌, ◌++◌, length}
use Rattle.cascade_eval.specs.Entries.{weighed_all}
use Rattle.cascade_eval.proofs.entries.push_decls.Given as goal

abbrev pub invariant-decls : goal.invariant-decls
invariant-decls l = record {
  found : l.found.items ++ weighed_all l.weights l.item l.position l.left ≡ l.initial.found.items ++ weighed_all l.weights l.item 0 l.fn.decls;
  counted : l.position + length l.left ≡ length l.fn.decls;
}

abbrev pub decreases-decls : goal.decreases-decls
decreases-decls l = length l.left
