use Rattle.lint_laws.proofs.Absorbed.{Laws}
use Rattle.lint_laws.proofs.Thinned.{keeps_winners}
use Rattle.lint_laws.proofs.cleaning.cleaning_keeps_winners.Goals as goal

pub returns : goal.returns
returns c =
    let laws : Laws = record {
      means = c.sheet_means_its_winner.ensures;
      counts = c.meanings_count_by_winners.ensures;
      is_greatest = c.winner_is_greatest.ensures;
      is_winner = c.greatest_is_winner.ensures;
      is_none = c.no_winner_is_none_understood.ensures;
      order = c.outranking_is_decided.ensures;
    } in
    keeps_winners laws c.matching_is_decided.ensures c.listed_stands_last.ensures
