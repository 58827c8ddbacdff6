use Rattle.std.proofs.Common.{◌≡◌, ◌++◌, drop}
use Rattle.std.specs.List.{flat_map}
use Rattle.doc_text.specs.DocText.{escaped_byte}
use Rattle.doc_text.proofs.escapes.push_bytes.Given as goal

abbrev pub invariant-loop-byte : goal.invariant-loop-byte
invariant-loop-byte l = l.out.items ++ flat_map escaped_byte (drop l.byte-index l.bytes) ≡ l.initial.out.items ++ flat_map escaped_byte l.bytes
