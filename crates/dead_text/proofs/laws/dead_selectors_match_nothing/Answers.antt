use Rattle.dead_text.proofs.Truth.{dead_match_nothing}
use Rattle.dead_text.proofs.laws.dead_selectors_match_nothing.Goals as goal

pub returns : goal.returns
returns c = dead_match_nothing
