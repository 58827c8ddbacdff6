use Rattle.pending_laws.proofs.OwnPairs.{own_pairs_go_on}
use Rattle.pending_laws.proofs.facts.own_pairs_go_on.Goals as goal

pub returns : goal.returns
returns c = own_pairs_go_on c.items_stay.ensures
