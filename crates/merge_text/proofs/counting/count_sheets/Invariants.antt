use Rattle.std.proofs.Common.{◌≡◌, ◌+◌, length}
use Rattle.merge_text.proofs.counting.count_sheets.Given as goal
use Rattle.opened_merge_laws.specs.Told.{items_in}

-- the sheets so far, and those that are left
abbrev pub invariant-sheets : goal.invariant-sheets
invariant-sheets l = l.n + items_in l.rest ≡ items_in l.sheets

abbrev pub decreases-sheets : goal.decreases-sheets
decreases-sheets l = length l.rest
