use Rattle.pending_laws.proofs.Been.{no_cut_comes}
use Rattle.pending_laws.proofs.facts.no_cut_comes.Goals as goal

pub returns : goal.returns
returns c = no_cut_comes c.steps_rearrange.ensures c.items_stay.ensures
