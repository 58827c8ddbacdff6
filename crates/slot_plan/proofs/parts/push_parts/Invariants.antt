use Rattle.std.proofs.Common.{◌≡◌, ◌++◌, take}
use Rattle.std.specs.List.{filter_map, flat_map}
use Rattle.slot_plan.specs.Parts.{part_of}
use Rattle.slot_plan.proofs.parts.push_parts.Given as goal

abbrev pub invariant-loop-compound : goal.invariant-loop-compound
invariant-loop-compound l = l.parts.items ≡ l.fn.parts.items ++ filter_map (λ s. part_of s.test) (flat_map (λ compound. compound) (take l.compound-index l.compound-items))
