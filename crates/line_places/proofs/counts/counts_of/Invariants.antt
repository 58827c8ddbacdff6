use Rattle.std.proofs.Common.{◌≡◌, ◌≤◌, ◌<◌, ◌*◌, ℕ, suc, length, get_or, take}
use Rattle.line_places.specs.Lines as spec
use Rattle.line_places.proofs.counts.counts_of.Given as goal

abbrev pub invariant-loop-k : goal.invariant-loop-k
invariant-loop-k l = record {
  many : length l.counts.items ≡ suc l.k;
  each : (k : ℕ) → k < suc l.k → get_or l.counts.items k 0 ≡ spec.code_points (take (k * 64) l.text);
  total : l.total ≡ spec.code_points (take (l.k * 64) l.text);
  few : l.total ≤ l.k * 64;
}
