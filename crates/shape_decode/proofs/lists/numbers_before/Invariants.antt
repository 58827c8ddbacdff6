use Rattle.std.proofs.Common.{map, take, ◌∷◌, ◌≡◌}
use Rattle.shape_decode.proofs.lists.numbers_before.Given as goal

abbrev pub invariant-loop-slot : goal.invariant-loop-slot
invariant-loop-slot l = l.numbers.items ≡ l.first ∷ map (λ s. s.before) (take l.slot-index l.slots)
