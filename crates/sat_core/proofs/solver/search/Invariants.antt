use Rattle.std.proofs.Common.{◌≡◌, ◌+◌, ◌*◌, ◌-◌, ◌^◌, length}
use Rattle.cnf.specs.Budgets.{IsWithin}
use Rattle.sat_core.specs.Search.{IsSearch}
use Rattle.sat_watch.specs.Watches.{IsReady}
use Rattle.sat_core.proofs.solver.search.Given as goal

abbrev pub invariant-search : goal.invariant-search
invariant-search l = record {
  state : IsSearch l.f l.ledger.items l.arena l.trail;
  seen : length l.seen.items ≡ l.f.vars;
  phases : length l.phases.items ≡ l.f.vars;
  within : IsWithin l.budget (length l.ledger.items);
  ready : IsReady l.arena l.trail l.head;
}

-- the ledgers that are still to come, and for each of them the variables that are open
abbrev pub decreases-search : goal.decreases-search
decreases-search l = (3 ^ l.f.vars - length l.ledger.items) * (l.f.vars + 1) + (l.f.vars - length l.trail.entries)
