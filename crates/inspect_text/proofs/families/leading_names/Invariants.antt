use Rattle.std.proofs.Common.{take}
use Rattle.inspect_text.specs.Leading as spec
use Rattle.inspect_text.proofs.families.leading_names.Given as goal

-- the names of the entries so far
abbrev pub invariant-loop-e : goal.invariant-loop-e
invariant-loop-e l = spec.SameNames l.names.items (spec.leading_names l.only_all (take l.e-index l.entries))
