use Rattle.dead_text.proofs.Truth.{alive_match}
use Rattle.dead_text.proofs.laws.alive_selectors_match.Goals as goal

pub returns : goal.returns
returns c = alive_match
