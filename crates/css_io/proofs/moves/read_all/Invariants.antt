use Rattle.std.proofs.Common.{◌-◌, ◌≤◌, vec_len, vec_capacity}
use Rattle.css_io.specs.Reading.{Gave}
use Rattle.css_io.proofs.Moving.{TookFront}
use Rattle.css_io.proofs.moves.read_all.Given as goal

abbrev pub invariant-pieces : goal.invariant-pieces
invariant-pieces g l = record {
  taken : TookFront (g.S.Source.left l.fn.src) (g.S.Source.left l.src) l.read.items;
  within : vec_len l.read ≤ l.room;
  room : l.room ≤ vec_capacity l.read;
  later : g.S.Source.faults l.fn.src ≤ g.S.Source.faults l.src;
  gave : Gave g.S.Source.read_gives (vec_len l.read) l.fn.src l.src;
}

abbrev pub decreases-pieces : goal.decreases-pieces
decreases-pieces g l = l.room - vec_len l.read
