use Rattle.opened_merge_laws.proofs.BodyPlans.{bodies_sound}
use Rattle.opened_merge_laws.proofs.bodies.planned_bodies_are_sound.Goals as goal

pub returns : goal.returns
returns c = bodies_sound c.opened_blocks_are_sheets.ensures.sheets c.read_is_sound.ensures c.read_keeps_the_limits.ensures c.leading_makes_of.ensures
