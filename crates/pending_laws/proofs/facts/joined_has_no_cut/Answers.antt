use Rattle.pending_laws.proofs.JoinedCuts.{joined_has_no_cut}
use Rattle.pending_laws.proofs.facts.joined_has_no_cut.Goals as goal

pub returns : goal.returns
returns c = joined_has_no_cut
