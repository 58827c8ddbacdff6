use Rattle.selector_laws.proofs.PositionLemmas.{written_are_tested}
use Rattle.selector_laws.proofs.laws.written_positions_are_tested.Goals as goal

pub returns : goal.returns
returns c = written_are_tested
