use Rattle.std.proofs.Common.{◌≡◌, ◌++◌, length}
use Rattle.css_print.specs.Positions.{remaining}
use Rattle.selector_laws.specs.Positions.{positions_in, positions_of}
use Rattle.css_print.proofs.positions.Positions.next.Given as goal

-- what was passed tests no position
abbrev pub invariant-compounds : goal.invariant-compounds
invariant-compounds l = positions_in l.simples ++ positions_of l.compounds ≡ remaining l.fn.self

abbrev pub decreases-compounds : goal.decreases-compounds
decreases-compounds l = length l.compounds
