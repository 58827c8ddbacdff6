use Rattle.print_laws.proofs.Back.Replaced.{replaced-reads-back}
use Rattle.print_laws.proofs.laws.replaced_reads_back.Goals as goal

pub returns : goal.returns
returns c = replaced-reads-back
