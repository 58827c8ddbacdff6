use Rattle.blockers_text.proofs.Freeing.{alone_would_be_free}
use Rattle.blockers_text.proofs.laws.alone_would_be_free.Goals as goal

pub returns : goal.returns
returns c = alone_would_be_free c.listed_is_reversed.ensures
