use Rattle.inspect_laws.proofs.Blocks.{blocks_are}
use Rattle.inspect_laws.proofs.First.{first_wins}
use Rattle.inspect_laws.proofs.laws.first_wins.Goals as goal

pub returns : goal.returns
returns c = λ doc target source items sorted name holds read order.
    first_wins (record { means = c.sheet_means_its_winner.ensures; is_winner = c.greatest_is_winner.ensures; is_none = c.no_winner_is_none_understood.ensures }) doc target source items sorted name holds order
    (blocks_are source items read)
