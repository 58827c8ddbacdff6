use Rattle.saved_bytes.proofs.KnownLists.{known_set}
use Rattle.saved_bytes.proofs.lengths.KnownLengths.remember.Goals as goal

pub invariant_of-self-inside : goal.invariant_of-self-inside
invariant_of-self-inside c = (
  c.self.inside.short,
  (known_set c.self.inside.bytes.now c.self.inside.known.items c.args.item.now.piece.start (record { behind = c.args.item.now.piece.«end»; len = c.in-Some.len }) c.self.inside.are_known c.in-Some.ensures, tt),
)
