use Rattle.media_groups.proofs.Lengths.{no_longer}
use Rattle.media_groups.proofs.laws.merged_is_no_longer.Goals as goal

pub returns : goal.returns
returns c = no_longer
