use Rattle.std.proofs.Common.{◌≡◌, ℕ, List, ◌++◌, length}
use Rattle.css_model.specs.Sheets.Spelling.{kept_text}
use Rattle.css_model.specs.Text.Kept.{kept}
use Rattle.css_print.specs.Walking.{left, IsReady}
use Rattle.css_print.proofs.print.put_kept.Given as goal

-- what was written, and the kept text of the tokens that are left, are the whole text
abbrev pub invariant-words : goal.invariant-words
invariant-words g l =
    (done : List ℕ) × g.O.Output.more l.fn.out done l.out × (done ++ kept (left l.walk) ≡ kept_text l.source l.fn.piece) × IsReady l.walk

abbrev pub decreases-words : goal.decreases-words
decreases-words g l = length (left l.walk)
