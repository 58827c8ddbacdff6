use Rattle.std.proofs.Common.{◌++◌, ◌≡◌}
use Rattle.formula_laws.specs.Asked.{run_rests}
use Rattle.formula_laws.specs.Path.{each_below}
use Rattle.formula_laws.specs.Refused.{right_cells, own_joint}
use Rattle.hint_clauses.proofs.joints.right_joints.Given as goal

abbrev pub invariant-loop-p : goal.invariant-loop-p
invariant-loop-p l = l.joints.items ≡ own_joint (run_rests l.count l.right.links l.right.chain l.q) ++ each_below l.p (right_cells l.count l.left l.right l.q)
