use Rattle.media_groups.proofs.Staying.{blocks_are_sheets, bodies_are_sound}
use Rattle.media_groups.proofs.laws.opened_blocks_are_sheets.Goals as goal

pub returns : goal.returns
returns c = record { sheets = blocks_are_sheets c.tokens_restart.ensures; sound = bodies_are_sound c.tokens_restart.ensures c.read_is_sound.ensures }
