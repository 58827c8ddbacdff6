use Rattle.shape_laws.specs.Forced.{AreOfOne}
use Rattle.overlap.proofs.clashing.compounds_clash.Given as goal

abbrev pub invariant-loop-i : goal.invariant-loop-i
invariant-loop-i l = AreOfOne l.left l.right l.i l.i l.i
