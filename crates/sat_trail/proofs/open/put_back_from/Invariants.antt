use Rattle.std.proofs.Common.{◌≡◌, ◌<◌, ◌≤◌, ℕ, true, false, Some, length, get_or}
use Rattle.std.specs.List.{slice_get}
use Rattle.cnf.specs.Lits.{variable}
use Rattle.sat_trail.specs.declared.entry.Entry.{Entry}
use Rattle.sat_trail.proofs.open.put_back_from.Given as goal

abbrev pub invariant-loop-k : goal.invariant-loop-k
invariant-loop-k l = record {
  size : length l.heap.is_in ≡ length l.fn.heap.is_in;
  kept : (v : ℕ) → get_or l.fn.heap.is_in v false ≡ true → get_or l.heap.is_in v false ≡ true;
  put_back : (k : ℕ) (e : Entry) → l.place ≤ k → k < l.k → slice_get l.entries k ≡ Some e → get_or l.heap.is_in (variable e.lit) false ≡ true;
}
