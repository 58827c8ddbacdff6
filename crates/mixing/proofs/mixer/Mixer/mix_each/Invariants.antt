use Rattle.std.proofs.Common.{◌≡◌, take, fold}
use Rattle.mixing.specs.Mixer as spec
use Rattle.mixing.proofs.mixer.Mixer.mix_each.Given as goal

abbrev pub invariant-loop-byte : goal.invariant-loop-byte
invariant-loop-byte l = l.self ≡ fold spec.mixed l.initial.self (take l.byte-index l.bytes)
