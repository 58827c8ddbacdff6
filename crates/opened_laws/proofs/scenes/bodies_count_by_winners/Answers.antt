use Rattle.opened_laws.proofs.Media.Meaning.{bodies_count, sheets_win}
use Rattle.opened_laws.proofs.scenes.bodies_count_by_winners.Goals as goal

pub returns : goal.returns
returns c = record {
  bodies = bodies_count c.meanings_count_by_winners.ensures c.sheet_means_its_winner.ensures;
  sheets = sheets_win c.meanings_count_by_winners.ensures c.sheet_means_its_winner.ensures;
}
