use Rattle.std.proofs.Common.{◌≡◌, ◌<◌, ◌^◌, drop}
use Rattle.line_match.specs.Recurring.{recurrence_of, with_chain}
use Rattle.line_match.proofs.recurrence.of_chain.Given as goal

abbrev pub invariant-loop-compound : goal.invariant-loop-compound
invariant-loop-compound l = record {
  value : with_chain l.recurrence (drop l.compound-index l.chain) ≡ recurrence_of l.chain;
  near : l.recurrence.threshold < 2 ^ 32;
}
