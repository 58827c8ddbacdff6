use Rattle.step_candidates.specs.Walking.{Adds, IsSelectorCut}
use Rattle.step_candidates.proofs.trying.try_selector_cuts.Given as goal

-- the cuts so far were tried
abbrev pub invariant-loop-sel : goal.invariant-loop-sel
invariant-loop-sel l = Adds l.on.lengths.now l.on.sheet.now.items (IsSelectorCut l.number l.sel) l.fn.found l.found
