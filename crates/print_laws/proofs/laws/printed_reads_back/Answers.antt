use Rattle.print_laws.proofs.Back.Replaced.{reads-back}
use Rattle.print_laws.proofs.laws.printed_reads_back.Goals as goal

pub returns : goal.returns
returns c = reads-back
