use Rattle.std.proofs.Common.{length, map}
use Rattle.std.specs.List.{AllByRecursion}
use Rattle.media_groups.specs.Laws.{IsBlockOf}
use Rattle.merge_report.proofs.Inside.{AreDone, AreFoundTo}
use Rattle.merge_report.proofs.remaining.remaining_inside.Given as goal
use Rattle.sheet_order.specs.Allowing.{Stays}
use Rattle.sheet_order.specs.Laws.{answer_seen}

-- of the blocks so far those that remain are found, and all that was answered stays
abbrev pub invariant-bodies : goal.invariant-bodies
invariant-bodies l = record {
  stays : Stays l.fn.pairs l.pairs;
  blocks : AllByRecursion (IsBlockOf l.source) l.rest;
  done : AreDone (map answer_seen l.fn.pairs.answers) l.source l.rest;
  are : AreFoundTo l.pairs.answers l.source l.media l.rest l.found.items;
}

abbrev pub decreases-bodies : goal.decreases-bodies
decreases-bodies l = length l.rest
