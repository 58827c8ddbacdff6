use Rattle.std.proofs.Common.{◌≡◌, drop}
use Rattle.std.specs.List.{list_all}
use Rattle.sibling_counts.specs.Sides.{both_hold}
use Rattle.sibling_counts.proofs.side.both_hold.Given as goal

abbrev pub invariant-loop-simple : goal.invariant-loop-simple
invariant-loop-simple l = list_all (both_hold l.alone) (drop l.simple-index l.simples) ≡ list_all (both_hold l.alone) l.simples
