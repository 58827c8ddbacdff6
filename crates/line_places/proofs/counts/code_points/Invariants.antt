use Rattle.std.proofs.Common.{◌≡◌, ◌≤◌, take}
use Rattle.line_places.specs.Lines as spec
use Rattle.line_places.proofs.counts.code_points.Given as goal

abbrev pub invariant-loop-byte : goal.invariant-loop-byte
invariant-loop-byte l = record {
  counted : l.count ≡ spec.code_points (take l.byte-index l.text);
  few : l.count ≤ l.byte-index;
}
