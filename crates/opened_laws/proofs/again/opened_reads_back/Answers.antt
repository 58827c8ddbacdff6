use Rattle.opened_laws.proofs.Back.Law.{law}
use Rattle.opened_laws.proofs.again.opened_reads_back.Goals as goal

pub returns : goal.returns
returns c = law c.blocks_stay.ensures.blocks c.blocks_stay.ensures.printed c.blocks_read_back.ensures
