use Rattle.std.proofs.Common.{sym}
use Rattle.command_words.proofs.Decimals.{most_is}
use Rattle.command_words.proofs.reading.tried.Goals as goal

pub invariant_of-result : goal.invariant_of-result
invariant_of-result c = record { few = most_is _ _ _ (sym c.in-Some.ensures) }
