use Rattle.std.proofs.Common.{◌≡◌, ◌≤◌, length}
use Rattle.line_places.specs.Lines as spec
use Rattle.line_places.proofs.lines.place_in.Given as goal

abbrev pub invariant-loop-i : goal.invariant-loop-i
invariant-loop-i l = record {
  lines : l.lines ≡ length (spec.starts_within l.i 0 l.text);
  start : l.start ≡ spec.last_of (spec.first_start l.text) (spec.starts_within l.i 0 l.text);
  few : l.lines ≤ l.i;
}
