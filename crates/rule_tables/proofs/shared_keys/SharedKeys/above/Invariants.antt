use Rattle.std.proofs.Common.{◌<◌, List, drop}
use Rattle.rule_tables.proofs.Reached.{GoesOn}
use Rattle.rule_tables.proofs.shared_keys.SharedKeys.above.Given as goal
use Rattle.rule_tables.specs.Ahead.{Reached}

-- those of the lists from a number on are still to be put
abbrev pub invariant-loop-number : goal.invariant-loop-number
invariant-loop-number l = (final : List Reached) → GoesOn (λ k. l.at < k) (drop l.number l.self) l.ahead final → GoesOn (λ k. l.at < k) l.self l.initial.ahead final
