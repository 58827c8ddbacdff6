use Rattle.pending_laws.proofs.OwnPairs.{own_pairs_have_no_cut}
use Rattle.pending_laws.proofs.facts.own_pairs_have_no_cut.Goals as goal

pub returns : goal.returns
returns c = own_pairs_have_no_cut
