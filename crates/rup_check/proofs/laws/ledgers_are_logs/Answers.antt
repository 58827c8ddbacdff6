use Rattle.rup_check.proofs.LedgerLemmas.{ledgers_are_logs, ledgers_refute}
use Rattle.rup_check.proofs.laws.ledgers_are_logs.Goals as goal

pub returns : goal.returns
returns c = record { logs = ledgers_are_logs; refute = ledgers_refute }
