use Rattle.opened_merge_laws.proofs.StandingApart.{stand_apart}
use Rattle.opened_merge_laws.proofs.bodies.opened_bodies_stand_apart.Goals as goal

pub returns : goal.returns
returns c = stand_apart
