use Rattle.std.proofs.Common.{◌≡◌, ◌++◌, take}
use Rattle.std.specs.List.{filter_map}
use Rattle.slot_plan.specs.Parts.{part_of}
use Rattle.slot_plan.proofs.parts.push_parts_of.Given as goal

abbrev pub invariant-loop-simple : goal.invariant-loop-simple
invariant-loop-simple l = l.parts.items ≡ l.fn.parts.items ++ filter_map (λ s. part_of s.test) (take l.simple-index l.simple-items)
