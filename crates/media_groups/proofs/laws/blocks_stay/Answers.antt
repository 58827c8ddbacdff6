use Rattle.media_groups.proofs.Staying.{stay, by_old_blocks}
use Rattle.media_groups.proofs.laws.blocks_stay.Goals as goal

pub returns : goal.returns
returns c = record { blocks = stay; printed = by_old_blocks }
