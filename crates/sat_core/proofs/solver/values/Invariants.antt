use Rattle.std.proofs.Common.{◌≡◌, ◌<◌, ◌↔◌, ℕ, IsTrue, Some, true, false, length, get_or}
use Rattle.cnf.specs.Lits.{positive}
use Rattle.sat_trail.specs.Trail.{lits, value_in}
use Rattle.sat_core.proofs.solver.values.Given as goal

abbrev pub invariant-loop-var : goal.invariant-loop-var
invariant-loop-var l = record {
  size : length l.values.items ≡ l.var;
  values : (v : ℕ) → v < l.var → (IsTrue (get_or l.values.items v false) ↔ (value_in (lits l.trail.entries) (positive v) ≡ Some true));
}
