use Rattle.step_candidates.specs.Walking.{Adds, IsDeclCut}
use Rattle.step_candidates.proofs.trying.try_decl_cuts.Given as goal

-- the cuts so far were tried
abbrev pub invariant-loop-decl : goal.invariant-loop-decl
invariant-loop-decl l = Adds l.on.lengths.now l.on.sheet.now.items (IsDeclCut l.number l.decl) l.fn.found l.found
