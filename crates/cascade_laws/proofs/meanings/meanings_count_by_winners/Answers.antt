use Rattle.cascade_laws.proofs.Meaning.Counting.{count_by_winners}
use Rattle.cascade_laws.proofs.meanings.meanings_count_by_winners.Goals as goal

pub returns : goal.returns
returns c = count_by_winners c.order_decides_winner.ensures
