use Rattle.std.proofs.Common.{◌≤◌, ◌+◌, length}
use Rattle.std.specs.List.{AllByRecursion}
use Rattle.media_groups.specs.Laws.{IsBlockOf}
use Rattle.overlap.specs.PairsParts.{PairsParts}
use Rattle.sheet_order.specs.Allowing.{Stays}
use Rattle.sheet_same.specs.declared.compared.Difference.{Difference}
use Rattle.sheet_same.specs.Compared.{BodiesTell}
use Rattle.sheet_same.proofs.comparing.compare_bodies.Given as goal

-- nothing is found in the first bodies, so that the others tell
abbrev pub invariant-bodies : goal.invariant-bodies
invariant-bodies l = record {
  stays : Stays l.fn.pairs l.pairs;
  first : AllByRecursion (IsBlockOf l.source) l.rest;
  second : AllByRecursion (IsBlockOf l.there) l.more;
  few : l.number + length l.rest ≤ length l.media;
  tells : (q : PairsParts) (d : Difference) → Stays l.pairs q → BodiesTell q.answers l.number l.source l.rest l.there l.more d → BodiesTell q.answers 0 l.source l.media l.there l.twins d;
}

abbrev pub decreases-bodies : goal.decreases-bodies
decreases-bodies l = length l.rest
