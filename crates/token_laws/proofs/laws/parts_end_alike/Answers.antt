use Rattle.token_laws.proofs.Ends.Rows.{rows_again}
use Rattle.token_laws.proofs.Ends.Rules.{part_again}
use Rattle.token_laws.proofs.laws.parts_end_alike.Goals as goal

pub returns : goal.returns
returns c = record { part = part_again; row = rows_again }
