use Rattle.std.proofs.Common.{rules}
use Rattle.css_io.proofs.Moving.{part_written}
use Rattle.css_io.proofs.moves.write_all.Goals as goal

pub returns-in-Err-clause-part : goal.returns-in-Err-clause-part
returns-in-Err-clause-part g c = part_written _ _ _ _ _ c.pieces.invariant.wrote (search rules) c.pieces.invariant.fewer c.in-Err.ensures.bytes
