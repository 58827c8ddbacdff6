use Rattle.print_laws.proofs.Length.Sheet.{no-longer}
use Rattle.print_laws.proofs.laws.printed_is_no_longer.Goals as goal

pub returns : goal.returns
returns c = no-longer
