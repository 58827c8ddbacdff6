use Rattle.overlap.proofs.Keeping.{place_is}
use Rattle.overlap.proofs.store.find_place.Goals as goal

pub returns : goal.returns
returns c = place_is c.args.selectors.now.keys c.args.x.now c.get_index_of.result c.get_index_of.ensures.index
