use Rattle.std.proofs.Common.{◌≡◌, take}
use Rattle.std.specs.List.{filter}
use Rattle.order_laws.specs.Edits as edits
use Rattle.sheet_order.specs.Taking as taking
use Rattle.sheet_order.proofs.taking.among_both.Given as goal

-- those of the first ones
abbrev pub invariant-loop-p : goal.invariant-loop-p
invariant-loop-p l = l.found.items ≡ filter (λ p. edits.is_moved (taking.common_of 0 0 l.upper l.lower) p.pair) (take l.p-index l.pairs)
