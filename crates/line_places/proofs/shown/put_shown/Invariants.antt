use Rattle.std.proofs.Common.{◌≡◌, ◌++◌, map, take}
use Rattle.line_places.specs.Shown as spec
use Rattle.line_places.proofs.shown.put_shown.Given as goal

abbrev pub invariant-loop-byte : goal.invariant-loop-byte
invariant-loop-byte l = l.out.items ≡ l.fn.out.items ++ map spec.shown_byte (take l.byte-index l.text)
