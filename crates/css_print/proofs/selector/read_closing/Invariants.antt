use Rattle.std.proofs.Common.{◌≡◌, suc, drop, length}
use Rattle.std.specs.List.{position_or_len}
use Rattle.css_print.specs.Walking.{left, IsReady}
use Rattle.css_print.specs.Words.{closes, gap_of_first}
use Rattle.css_print.proofs.selector.read_closing.Given as goal

-- no `)` was passed
abbrev pub invariant-tokens : goal.invariant-tokens
invariant-tokens l =
    (gap_of_first (drop (position_or_len closes (left l.walk)) (left l.walk)) ≡ gap_of_first (drop (position_or_len closes (left l.fn.walk)) (left l.fn.walk)))
    × (drop (suc (position_or_len closes (left l.walk))) (left l.walk) ≡ drop (suc (position_or_len closes (left l.fn.walk))) (left l.fn.walk)) × IsReady l.walk

abbrev pub decreases-tokens : goal.decreases-tokens
decreases-tokens l = length (left l.walk)
