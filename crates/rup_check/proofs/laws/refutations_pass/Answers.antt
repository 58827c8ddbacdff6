use Rattle.rup_check.proofs.LedgerLemmas.{refutations_pass}
use Rattle.rup_check.proofs.laws.refutations_pass.Goals as goal

pub returns : goal.returns
returns c = refutations_pass
