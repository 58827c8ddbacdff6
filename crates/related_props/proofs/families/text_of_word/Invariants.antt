use Rattle.std.proofs.Common.{◌≡◌, take}
use Rattle.related_props.proofs.families.text_of_word.Given as goal

abbrev pub invariant-loop-byte : goal.invariant-loop-byte
invariant-loop-byte l = l.codes.items ≡ take l.byte-index l.word
