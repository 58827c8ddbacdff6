use Rattle.std.proofs.Common.{◌≡◌, None, length}
use Rattle.std.specs.List.{AllByRecursion}
use Rattle.std.specs.Option.{option_copied}
use Rattle.std.specs.Prelude.{IfSome}
use Rattle.sheet_members.specs.Ready.{IsReady}
use Rattle.turned_members.specs.Turned.{couple}
use Rattle.diff_text.specs.Winning.{greatest_from}
use Rattle.diff_text.proofs.winning.winning.Given as goal

-- the winner so far, and those that are left
abbrev pub invariant-occurrences : goal.invariant-occurrences
invariant-occurrences l = record {
  winner : greatest_from l.x (couple l.first l.second) (option_copied l.best) l.rest ≡ greatest_from l.x (couple l.first l.second) None l.fn.occurrences;
  best : IfSome (option_copied l.best) IsReady;
  ready : AllByRecursion IsReady l.rest;
}

abbrev pub decreases-occurrences : goal.decreases-occurrences
decreases-occurrences l = length l.rest
