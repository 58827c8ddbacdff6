use Rattle.std.proofs.Common.{◌≡◌, ◌++◌, drop}
use Rattle.compound_fit.proofs.free_name.push_ascii.Given as goal

abbrev pub invariant-loop-byte : goal.invariant-loop-byte
invariant-loop-byte l = l.codes.items ++ drop l.byte-index l.bytes ≡ l.initial.codes.items ++ l.bytes
