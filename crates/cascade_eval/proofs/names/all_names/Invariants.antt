use Rattle.std.proofs.Common.{◌≡◌, ◌++◌, drop, map}
use Rattle.cascade_eval.proofs.names.all_names.Given as goal

abbrev pub invariant-loop-entry : goal.invariant-loop-entry
invariant-loop-entry l = l.names.items ++ map (λ e. e.decl.name) (drop l.entry-index l.entries) ≡ map (λ e. e.decl.name) l.entries
