use Rattle.std.proofs.Common.{length}
use Rattle.example_doc.proofs.slots.+simples_at.Given as goal

abbrev pub decreases-simples_at : goal.decreases-simples_at
decreases-simples_at l = length l.chain.now
