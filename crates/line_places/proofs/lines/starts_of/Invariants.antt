use Rattle.std.proofs.Common.{◌≡◌}
use Rattle.line_places.specs.Lines as spec
use Rattle.line_places.proofs.lines.starts_of.Given as goal

abbrev pub invariant-loop-i : goal.invariant-loop-i
invariant-loop-i l = l.starts.items ≡ spec.starts_within l.i 0 l.text
