use Rattle.print_laws.proofs.Back.Replaced.{reads-back-as-twin}
use Rattle.print_laws.proofs.laws.printed_reads_back_as_twin.Goals as goal

pub returns : goal.returns
returns c = reads-back-as-twin
