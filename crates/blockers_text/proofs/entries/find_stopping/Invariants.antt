use Rattle.std.proofs.Common.{List, length}
use Rattle.blockers_text.proofs.entries.find_stopping.Given as goal
use Rattle.blockers_text.proofs.Finding.{AreFound}
use Rattle.blockers_text.specs.Later.{AreMarks, Grows, IsLater, seen}
use Rattle.step_laws.specs.Free.{Answered}

-- what was found so far, by the marks of its items and by what is answered later on
abbrev pub invariant-entries : goal.invariant-entries
invariant-entries l = record {
  grows : Grows l.fn.pairs l.pairs;
  marked : AreMarks l.items l.found.items l.marks.items;
  all : (later : List Answered) → IsLater (seen l.pairs) later → AreFound later l.items l.entries l.found.items l.rest;
}

abbrev pub decreases-entries : goal.decreases-entries
decreases-entries l = length l.rest
