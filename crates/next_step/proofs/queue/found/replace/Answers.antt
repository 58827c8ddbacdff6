use Rattle.std.proofs.Common.{sym}
use Rattle.next_step.proofs.queue.found.replace.Goals as goal

pub returns-clause-was : goal.returns-clause-was
returns-clause-was c = (c.args.number, c.requires, sym c.index-late.ensures)
