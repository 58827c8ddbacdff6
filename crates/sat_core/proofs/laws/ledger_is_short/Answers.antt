use Rattle.sat_core.proofs.CountLemmas.{short}
use Rattle.sat_core.proofs.laws.ledger_is_short.Goals as goal

pub returns : goal.returns
returns c = short
