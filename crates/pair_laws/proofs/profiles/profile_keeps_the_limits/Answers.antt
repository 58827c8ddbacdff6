use Rattle.pair_laws.proofs.Profile.Compounds.{limits}
use Rattle.pair_laws.proofs.profiles.profile_keeps_the_limits.Goals as goal

pub returns : goal.returns
returns c = limits
