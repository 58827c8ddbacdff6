use Rattle.std.proofs.Common.{◌++◌, ◌≡◌}
use Rattle.formula_laws.specs.Asked.{run_rests}
use Rattle.formula_laws.specs.Path.{each_below}
use Rattle.formula_laws.specs.Refused.{left_cells, own_joint}
use Rattle.hint_clauses.proofs.joints.left_joints.Given as goal

abbrev pub invariant-loop-q : goal.invariant-loop-q
invariant-loop-q l = l.joints.items ≡ own_joint (run_rests l.count l.left.links l.left.chain l.p) ++ each_below l.q (left_cells l.count l.left l.right l.p)
