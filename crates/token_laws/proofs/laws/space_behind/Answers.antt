use Rattle.token_laws.proofs.Spaces.Behind.{space_ends, space_closes, self_ended_are_shut, last_closes}
use Rattle.token_laws.proofs.laws.space_behind.Goals as goal

pub returns : goal.returns
returns c = record { ends = space_ends; closes = space_closes; kinds = self_ended_are_shut; last = last_closes }
