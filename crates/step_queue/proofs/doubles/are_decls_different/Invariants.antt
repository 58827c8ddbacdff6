use Rattle.std.proofs.Common.{◌↔◌, length}
use Rattle.css_model.specs.declared.sheet.DeclItem.{DeclItem}
use Rattle.step_queue.proofs.doubles.are_decls_different.Given as goal
use Rattle.step_queue.specs.Once.{StandOnce}

-- those that are left stand once exactly if all do
abbrev pub invariant-rest : goal.invariant-rest
invariant-rest l = StandOnce (λ (x : DeclItem). x.decl) l.rest ↔ StandOnce (λ (x : DeclItem). x.decl) l.initial.rest

abbrev pub decreases-rest : goal.decreases-rest
decreases-rest l = length l.rest
