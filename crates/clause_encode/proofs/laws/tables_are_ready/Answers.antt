use Rattle.clause_encode.proofs.Ready.{table_ready}
use Rattle.clause_encode.proofs.laws.tables_are_ready.Goals as goal

pub returns : goal.returns
returns c = table_ready
