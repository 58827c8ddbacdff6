use Rattle.std.proofs.Common.{◌≡◌, take}
use Rattle.css_tokens.proofs.names.codes_of_bytes.Given as goal

abbrev pub invariant-loop-c : goal.invariant-loop-c
invariant-loop-c l = l.codes.items ≡ take l.c-index l.text
