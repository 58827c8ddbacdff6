use Rattle.std.proofs.Common.{◌≤◌, ◌++◌, ℕ, List, length}
use Rattle.css_io.proofs.Moving.{WroteFront}
use Rattle.css_io.proofs.moves.write_all.Given as goal

abbrev pub invariant-pieces : goal.invariant-pieces
invariant-pieces g l = record {
  wrote : WroteFront (g.O.Sink.written l.fn.out) (g.O.Sink.written l.out) l.bytes l.rest;
  fits : g.O.Sink.fits l.out l.rest;
  more : (behind : List ℕ) → g.O.Sink.fits l.fn.out (l.bytes ++ behind) → g.O.Sink.fits l.out (l.rest ++ behind);
  fewer : length l.rest ≤ length l.bytes;
  later : g.O.Sink.faults l.fn.out ≤ g.O.Sink.faults l.out;
}

abbrev pub decreases-pieces : goal.decreases-pieces
decreases-pieces g l = length l.rest
