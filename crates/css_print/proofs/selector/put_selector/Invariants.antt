use Rattle.std.proofs.Common.{◌≡◌, ℕ, List, ◌++◌, length}
use Rattle.css_model.specs.Sheets.Printed.{printed_selector}
use Rattle.css_model.specs.Sheets.PrintedSelector.{printed_from}
use Rattle.css_print.specs.Positions.{remaining}
use Rattle.css_print.specs.Putting.{IsAt}
use Rattle.css_print.specs.Walking.{left, IsReady}
use Rattle.css_print.proofs.selector.put_selector.Given as goal

-- what was written, and what is to be written of the tokens that are left, are the whole text
abbrev pub invariant-terms : goal.invariant-terms
invariant-terms g l =
    (done : List ℕ) × g.O.Output.more l.fn.out done l.out × (done ++ printed_from l.place.depth 0 (left l.walk) ≡ printed_selector l.source l.item) × IsReady l.walk
    × IsAt l.place (left l.walk) (remaining l.positions)

abbrev pub decreases-terms : goal.decreases-terms
decreases-terms g l = length (left l.walk)
