-- What holds while the solver searches.
use Rattle.std.specs.Prelude.{◌≡◌, List, ◌++◌, IsTrue}
use Rattle.cnf.specs.declared.lit.Lit.{Lit}
use Rattle.cnf.specs.Cnf.{Cnf}
use Rattle.cnf.specs.Propagation.{IsLedger}
use Rattle.sat_trail.specs.Trail.{Assignment}
use Rattle.sat_arena.specs.Arena.{WatchedClauses}
use Rattle.sat_watch.specs.Nonempty.{are_nonempty}
use Rattle.sat_watch.specs.Numbered.{numbered, clauses_of}
use Rattle.sat_watch.specs.Soundness.{IsSound}

-- the state of the search: the clauses are those of the formula and of the ledger
pub record IsSearch (f : Cnf) (ledger : List (List Lit)) (a : WatchedClauses) (t : Assignment) : Type 0 where
  pub same_clauses : clauses_of (numbered a) ≡ f.clauses ++ ledger
  pub same_vars : a.vars ≡ f.vars
  pub trail_vars : t.vars ≡ f.vars
  pub logged : IsLedger f ledger
  pub nonempty_formula : IsTrue (are_nonempty f.clauses)
  pub nonempty_ledger : IsTrue (are_nonempty ledger)
  pub sound : IsSound (numbered a) t
