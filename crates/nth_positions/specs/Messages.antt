-- The texts of faults.
use Rattle.std.specs.Prelude.{ℕ, List, codes}
use Rattle.nth_positions.specs.declared.notation.AnbFault.{AnbFault}
use Rattle.nth_positions.specs.declared.notation.AnbFault.TheVariants.{NotAnB, OutOfRange}

-- what a fault is displayed as
abbrev pub message : AnbFault → List ℕ
message NotAnB = codes "not of the form An+B, `odd` or `even`"
message OutOfRange = codes "the step is beyond 32 or the offset beyond 1000"
