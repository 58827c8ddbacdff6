use Rattle.std.proofs.Common.{◌≡◌, List, [], length, map}
use Rattle.rule_tables.proofs.ListsUnder.{AreListsBehind}
use Rattle.rule_tables.proofs.partners.lists_under.Given as goal
use Rattle.rule_tables.specs.Ahead.{Reached}
use Rattle.rule_tables.specs.SharedKeys.{shared}

-- those of the rest are still to be put
abbrev pub invariant-rest : goal.invariant-rest
invariant-rest l = record {
  beside : length l.rest_of_weights ≡ length l.rest;
  lists : (final : List Reached) → AreListsBehind l.entries l.rest l.rest_of_weights (map shared l.lists.items) final → AreListsBehind l.entries l.decls l.weights [] final;
}

abbrev pub decreases-rest : goal.decreases-rest
decreases-rest l = length l.rest
