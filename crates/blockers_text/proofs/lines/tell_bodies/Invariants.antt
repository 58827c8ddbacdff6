use Rattle.std.proofs.Common.{length}
use Rattle.std.specs.List.{AllByRecursion}
use Rattle.blockers_text.proofs.lines.tell_bodies.Given as goal
use Rattle.blockers_text.proofs.Telling.{ToldSo}
use Rattle.blockers_text.specs.Later.{Grows}
use Rattle.media_groups.specs.Laws.{IsBlockOf}

-- the bodies so far are told
abbrev pub invariant-bodies : goal.invariant-bodies
invariant-bodies l = record {
  grows : Grows l.fn.pairs l.pairs;
  blocks : AllByRecursion (IsBlockOf l.lines.text.now) l.rest;
  told : ToldSo l.lines.text.now l.pairs l.media l.rest l.fn.told l.told;
}

abbrev pub decreases-bodies : goal.decreases-bodies
decreases-bodies l = length l.rest
