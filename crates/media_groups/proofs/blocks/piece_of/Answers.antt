use Rattle.std.proofs.Common.{sym}
use Rattle.media_groups.proofs.Parts.{piece_of_ends}
use Rattle.media_groups.proofs.blocks.piece_of.Goals as goal

pub returns-in-Some-Some : goal.returns-in-Some-Some
returns-in-Some-Some c =
    piece_of_ends c.in-Some-Some.first.now c.in-Some-Some.last.now c.args.xs.now (sym c.in-Some-Some.ensures.value) (sym c.in-Some-Some.ensures'.value)
