-- How long a ledger can be.
use Rattle.std.specs.Prelude.{◌<◌, ◌^◌, List, length, IsTrue}
use Rattle.cnf.specs.declared.lit.Lit.{Lit}
use Rattle.cnf.specs.Cnf.{Cnf}
use Rattle.cnf.specs.Propagation.{IsLedger}
pub use Rattle.sat_watch.specs.Nonempty.{is_nonempty, are_nonempty}

-- a ledger without the empty clause has fewer clauses than 3 to the number of variables
abbrev pub LedgerIsShort : Type 0
LedgerIsShort = (f : Cnf) (ledger : List (List Lit)) → IsLedger f ledger → IsTrue (are_nonempty ledger) → length ledger < 3 ^ f.vars
