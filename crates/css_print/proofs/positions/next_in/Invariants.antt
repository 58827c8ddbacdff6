use Rattle.std.proofs.Common.{◌≡◌, length}
use Rattle.selector_laws.specs.Positions.{positions_in}
use Rattle.css_print.proofs.positions.next_in.Given as goal

-- what was passed tests no position
abbrev pub invariant-simples : goal.invariant-simples
invariant-simples l = positions_in l.simples.now ≡ positions_in l.fn.simples.now

abbrev pub decreases-simples : goal.decreases-simples
decreases-simples l = length l.simples.now
