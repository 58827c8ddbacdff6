use Rattle.cascade_laws.proofs.Meaning.Counting.{means_winner}
use Rattle.cascade_laws.proofs.meanings.sheet_means_its_winner.Goals as goal

pub returns : goal.returns
returns c = means_winner c.order_decides_winner.ensures
