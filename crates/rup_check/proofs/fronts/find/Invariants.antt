use Rattle.std.proofs.Common.{◌≢◌, ◌<◌, ℕ}
use Rattle.std.specs.Prelude.{slice_index}
use Rattle.rup_check.proofs.fronts.find.Given as goal

abbrev pub invariant-loop-k : goal.invariant-loop-k
invariant-loop-k l = (j : ℕ) → j < l.k → slice_index l.text j ≢ l.byte
